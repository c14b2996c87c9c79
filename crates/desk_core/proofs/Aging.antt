-- The ages of kept keys, found by their texts.
use Rattle.std.proofs.Common.{◌≡◌, ℕ, zero, suc, ◌+◌, List, [], ◌∷◌, ◌++◌, Bool, true, false, true≢false, cond, not, ◌&&◌, ◌||◌, nat_lt, ◌≤◌, ◌<◌, min, slice_get, get_or, drop, length, Option, Some, None, filter, refl, sym, ap, subst, ◌∙◌, arith}
use Rattle.std.specs.Cmp.Lexicographic.{slice_cmp}
use Rattle.std.specs.Ordering.{nat_cmp, match_ordering, ordering_reverse}
use Rattle.std.specs.Option.{is_none, is_some}
use Rattle.std.specs.Str.{bytes_eq}
use Rattle.std.specs.declared.cmp.Ordering.{Ordering}
use Rattle.std.specs.declared.cmp.Ordering.TheVariants.{Less, Equal, Greater}
use Rattle.std.proofs.lemmas.Bool.{ltb-true}
use Rattle.std.proofs.lemmas.List.{append_assoc, drop_more}
use Rattle.std.proofs.lemmas.Cmp.{nat_list_cmp_total, nat_list_eq_equiv, tied_itself}
use Rattle.std.proofs.lemmas.Option.{get_or_from_slice_get}
use Rattle.std.proofs.lemmas.Map.Made.{length-from_keys}
use Rattle.std.proofs.lemmas.Map.Lookups.{exact_bytes}
use Rattle.rtl_sig.specs.Names.{has_name, AreDistinct}
use Rattle.result_cache.proofs.Keys.{AllDiffer, NoneIs, bytes_same, bytes_true, bytes_other, differ_of, distinct_of}
use Rattle.result_cache.proofs.Rising.{among_filtered}
use Rattle.result_cache.specs.Filled.{new_count}
use Rattle.build_crew.specs.Forgetting.{without}
use Rattle.build_crew.specs.Kept.{HasStill}
use Rattle.desk_core.specs.Ages.{aged, with_kept, oldest, older, with_new, kept_after, kept_in, texts_of}
use Rattle.desk_core.specs.Needed.{age_after, ages_after, is_too_old, marks_of, new_places, too_old}
use Rattle.desk_core.specs.State.{KeptKey}

abbrev compared : List ℕ → List ℕ → Ordering
compared x y = slice_cmp nat_cmp x y

-- each of these keys is greater
abbrev pub AreAbove : List ℕ → List KeptKey → Type 0
AreAbove key [] = Unit {0}
AreAbove key (k ∷ kept) = (slice_cmp nat_cmp key k.key ≡ Less) × AreAbove key kept

-- each kept key is greater than those before it
abbrev pub AreRising : List KeptKey → Type 0
AreRising [] = Unit {0}
AreRising (k ∷ kept) = AreAbove k.key kept × AreRising kept

-- the age of a key, where it is kept
abbrev pub age_of : List KeptKey → List ℕ → Option ℕ
age_of [] q = None
age_of (k ∷ kept) q = cond (bytes_eq q k.key) (Some k.age) (age_of kept q)

above_more : (a b : List ℕ) → compared a b ≡ Less → (kept : List KeptKey) → AreAbove b kept → AreAbove a kept
above_more a b lt [] h = tt
above_more a b lt (k ∷ kept) h = (nat_list_cmp_total.trans a b k.key lt h.0, above_more a b lt kept h.1)

greater_turned : (a b : List ℕ) → compared a b ≡ Greater → compared b a ≡ Less
greater_turned a b gt = nat_list_cmp_total.antisymm b a ∙ ap ordering_reverse gt

above_kept : (key : List ℕ) (new : KeptKey) (kept : List KeptKey) → compared key new.key ≡ Less → AreAbove key kept → AreAbove key (with_kept new kept)
above_kept key new [] lt h = (lt, tt)
above_kept key new (x ∷ kept) lt h = by (compared new.key x.key) (above_kept key new kept lt h.1)
  where
    by : (o : Ordering) → AreAbove key (with_kept new kept) → AreAbove key (match_ordering o (new ∷ x ∷ kept) (new ∷ kept) (x ∷ with_kept new kept))
    by Less rest = (lt, h)
    by Equal rest = (lt, h.1)
    by Greater rest = (h.0, rest)

rising_kept : (new : KeptKey) (kept : List KeptKey) → AreRising kept → AreRising (with_kept new kept)
rising_kept new [] h = (tt, tt)
rising_kept new (x ∷ kept) h = by (compared new.key x.key) refl (rising_kept new kept h.1)
  where
    by : (o : Ordering) → compared new.key x.key ≡ o → AreRising (with_kept new kept) → AreRising (match_ordering o (new ∷ x ∷ kept) (new ∷ kept) (x ∷ with_kept new kept))
    by Less is rest = ((is, above_more new.key x.key is kept h.0), h)
    by Equal is rest = (subst (λ (k : List ℕ). AreAbove k kept) (sym (exact_bytes new.key x.key is)) h.0, h.1)
    by Greater is rest = (above_kept x.key new kept (greater_turned new.key x.key is) h.0, rest)

-- a key is not among those that are greater
age_none : (key : List ℕ) (kept : List KeptKey) → AreAbove key kept → age_of kept key ≡ None
age_none key [] h = refl
age_none key (x ∷ kept) h = by (bytes_eq key x.key) refl (age_none key kept h.1)
  where
    by : (b : Bool) → bytes_eq key x.key ≡ b → age_of kept key ≡ None → cond b (Some x.age) (age_of kept key) ≡ None
    by true is rest = absurd (let tie : compared key x.key ≡ Equal = ap (compared key) (sym (bytes_true key x.key is)) ∙ tied_itself nat_list_cmp_total key in let both : Less ≡ Equal = sym h.0 ∙ tie in cc)
    by false is rest = rest

apart : (a b : List ℕ) → compared a b ≡ Greater → a ≡ b → Greater ≡ Equal
apart a b gt same = sym gt ∙ ap (compared a) (sym same) ∙ tied_itself nat_list_cmp_total a

-- the age of a key once one is put among them
pub age_kept : (new : KeptKey) (kept : List KeptKey) (q : List ℕ) → age_of (with_kept new kept) q ≡ cond (bytes_eq q new.key) (Some new.age) (age_of kept q)
age_kept new [] q = refl
age_kept new (x ∷ kept) q = by (compared new.key x.key) refl (bytes_eq q new.key) refl (bytes_eq q x.key) refl (age_kept new kept q)
  where
    by : (o : Ordering) → compared new.key x.key ≡ o → (a : Bool) → bytes_eq q new.key ≡ a → (b : Bool) → bytes_eq q x.key ≡ b
        → age_of (with_kept new kept) q ≡ cond (bytes_eq q new.key) (Some new.age) (age_of kept q)
        → age_of (match_ordering o (new ∷ x ∷ kept) (new ∷ kept) (x ∷ with_kept new kept)) q ≡ cond a (Some new.age) (cond b (Some x.age) (age_of kept q))
    by Less o a is b has rest =
        ap (λ (a : Bool). cond a (Some new.age) (cond (bytes_eq q x.key) (Some x.age) (age_of kept q))) is
        ∙ ap (λ (b : Bool). cond a (Some new.age) (cond b (Some x.age) (age_of kept q))) has
    by Equal o true is b has rest = ap (λ (a : Bool). cond a (Some new.age) (age_of kept q)) is
    by Equal o false is true has rest = absurd (true≢false (sym has ∙ ap (bytes_eq q) (sym (exact_bytes new.key x.key o)) ∙ is))
    by Equal o false is false has rest = ap (λ (a : Bool). cond a (Some new.age) (age_of kept q)) is
    by Greater o true is true has rest = absurd (let both = apart new.key x.key o (sym (bytes_true q new.key is) ∙ bytes_true q x.key has) in cc)
    by Greater o false is true has rest = ap (λ (b : Bool). cond b (Some x.age) (age_of (with_kept new kept) q)) has
    by Greater o a is false has rest =
        ap (λ (b : Bool). cond b (Some x.age) (age_of (with_kept new kept) q)) has ∙ rest ∙ ap (λ (a : Bool). cond a (Some new.age) (age_of kept q)) is

above_older : (key : List ℕ) (kept : List KeptKey) → AreAbove key kept → AreAbove key (older kept)
above_older key [] h = tt
above_older key (x ∷ kept) h = by (nat_lt x.age oldest) (above_older key kept h.1)
  where
    by : (b : Bool) → AreAbove key (older kept) → AreAbove key (cond b (aged x.key (x.age + 1) ∷ older kept) (older kept))
    by true rest = (h.0, rest)
    by false rest = rest

rising_older : (kept : List KeptKey) → AreRising kept → AreRising (older kept)
rising_older [] h = tt
rising_older (x ∷ kept) h = by (nat_lt x.age oldest) (rising_older kept h.1)
  where
    by : (b : Bool) → AreRising (older kept) → AreRising (cond b (aged x.key (x.age + 1) ∷ older kept) (older kept))
    by true rest = (above_older x.key kept h.0, rest)
    by false rest = rest

age_older : (kept : List KeptKey) (q : List ℕ) → AreRising kept → age_of (older kept) q ≡ age_after false (age_of kept q)
age_older [] q h = refl
age_older (x ∷ kept) q h = by (nat_lt x.age oldest) refl (bytes_eq q x.key) refl (age_older kept q h.1)
  where
    by : (b : Bool) → nat_lt x.age oldest ≡ b → (c : Bool) → bytes_eq q x.key ≡ c → age_of (older kept) q ≡ age_after false (age_of kept q)
        → age_of (cond b (aged x.key (x.age + 1) ∷ older kept) (older kept)) q ≡ age_after false (cond c (Some x.age) (age_of kept q))
    by true is true has rest =
        ap (λ (c : Bool). cond c (Some (x.age + 1)) (age_of (older kept) q)) has ∙ sym (ap (λ (b : Bool). cond b (Some (x.age + 1)) None) is)
    by true is false has rest = ap (λ (c : Bool). cond c (Some (x.age + 1)) (age_of (older kept) q)) has ∙ rest
    by false is true has rest =
        rest ∙ ap (age_after false) (ap (age_of kept) (bytes_true q x.key has) ∙ age_none x.key kept h.0) ∙ sym (ap (λ (b : Bool). cond b (Some (x.age + 1)) None) is)
    by false is false has rest = rest

rising_new : (keys : List (List ℕ)) (kept : List KeptKey) → AreRising kept → AreRising (with_new kept keys)
rising_new [] kept h = h
rising_new (key ∷ keys) kept h = rising_new keys (with_kept (aged key 0) kept) (rising_kept (aged key 0) kept h)

either : {A : Type 0} (a b : Bool) (x y : A) → cond b x (cond a x y) ≡ cond (a || b) x y
either true true x y = refl
either true false x y = refl
either false b x y = refl

age_new : (keys : List (List ℕ)) (kept : List KeptKey) (q : List ℕ) → age_of (with_new kept keys) q ≡ cond (has_name keys q) (Some 0) (age_of kept q)
age_new [] kept q = refl
age_new (key ∷ keys) kept q =
    age_new keys (with_kept (aged key 0) kept) q
    ∙ ap (λ (o : Option ℕ). cond (has_name keys q) (Some 0) o) (age_kept (aged key 0) kept q)
    ∙ either (bytes_eq q key) (has_name keys q) (Some 0) (age_of kept q)

-- the age that stands at the place of a key
abbrev pub age_at : List (List ℕ) → List (Option ℕ) → List ℕ → Option ℕ
age_at [] ages q = None
age_at (key ∷ keys) [] q = None
age_at (key ∷ keys) (age ∷ ages) q = cond (bytes_eq q key) age (age_at keys ages q)

rising_in : (keys : List (List ℕ)) (ages : List (Option ℕ)) → AreRising (kept_in keys ages)
rising_in [] ages = tt
rising_in (key ∷ keys) [] = tt
rising_in (key ∷ keys) (None ∷ ages) = rising_in keys ages
rising_in (key ∷ keys) (Some age ∷ ages) = rising_kept (aged key age) (kept_in keys ages) (rising_in keys ages)

pub none_at : (key : List ℕ) (keys : List (List ℕ)) (ages : List (Option ℕ)) → NoneIs key keys → age_at keys ages key ≡ None
none_at key [] ages h = refl
none_at key (x ∷ keys) [] h = refl
none_at key (x ∷ keys) (age ∷ ages) h = ap (λ (b : Bool). cond b age (age_at keys ages key)) (bytes_other x key h.0) ∙ none_at key keys ages h.1

pub age_in : (keys : List (List ℕ)) (ages : List (Option ℕ)) (q : List ℕ) → AllDiffer keys → age_of (kept_in keys ages) q ≡ age_at keys ages q
age_in [] ages q h = refl
age_in (key ∷ keys) [] q h = refl
age_in (key ∷ keys) (None ∷ ages) q h = by (bytes_eq q key) refl (age_in keys ages q h.1)
  where
    by : (b : Bool) → bytes_eq q key ≡ b → age_of (kept_in keys ages) q ≡ age_at keys ages q → age_of (kept_in keys ages) q ≡ cond b None (age_at keys ages q)
    by true is rest = rest ∙ ap (age_at keys ages) (bytes_true q key is) ∙ none_at key keys ages h.0
    by false is rest = rest
age_in (key ∷ keys) (Some age ∷ ages) q h =
    age_kept (aged key age) (kept_in keys ages) q ∙ ap (λ (o : Option ℕ). cond (bytes_eq q key) (Some age) o) (age_in keys ages q h.1)

marked : (b : Bool) (age : Option ℕ) → age_after b age ≡ cond b (Some 0) (age_after false age)
marked true age = refl
marked false age = refl

age_grown : (texts keys : List (List ℕ)) (ages : List (Option ℕ)) (q : List ℕ) → length ages ≡ length keys
    → age_at keys (ages_after (marks_of texts keys) ages) q ≡ cond (has_name keys q && has_name texts q) (Some 0) (age_after false (age_at keys ages q))
age_grown texts [] ages q same = refl
age_grown texts (key ∷ keys) [] q same = absurd (omega (arith, same))
age_grown texts (key ∷ keys) (age ∷ ages) q same = by (bytes_eq q key) refl (age_grown texts keys ages q (omega (arith, same)))
  where
    by : (b : Bool) → bytes_eq q key ≡ b
        → age_at keys (ages_after (marks_of texts keys) ages) q ≡ cond (has_name keys q && has_name texts q) (Some 0) (age_after false (age_at keys ages q))
        → cond b (age_after (has_name texts key) age) (age_at keys (ages_after (marks_of texts keys) ages) q) ≡ cond ((b || has_name keys q) && has_name texts q) (Some 0) (age_after false (cond b age (age_at keys ages q)))
    by true is rest = ap (λ (k : List ℕ). age_after (has_name texts k) age) (sym (bytes_true q key is)) ∙ marked (has_name texts q) age
    by false is rest = rest

-- rising kept keys are told by their ages
same_kept : (xs ys : List KeptKey) → AreRising xs → AreRising ys → ((q : List ℕ) → age_of xs q ≡ age_of ys q) → xs ≡ ys
same_kept [] [] f g h = refl
same_kept [] (y ∷ ys) f g h = absurd (let no : None ≡ Some y.age = h y.key ∙ itself y ys in cc)
  where
    itself : (x : KeptKey) (xs : List KeptKey) → age_of (x ∷ xs) x.key ≡ Some x.age
    itself x xs = ap (λ (b : Bool). cond b (Some x.age) (age_of xs x.key)) (bytes_same x.key x.key refl)
same_kept (x ∷ xs) [] f g h = absurd (let no : None ≡ Some x.age = sym (h x.key) ∙ itself x xs in cc)
  where
    itself : (x : KeptKey) (xs : List KeptKey) → age_of (x ∷ xs) x.key ≡ Some x.age
    itself x xs = ap (λ (b : Bool). cond b (Some x.age) (age_of xs x.key)) (bytes_same x.key x.key refl)
same_kept (x ∷ xs) (y ∷ ys) f g h = by (compared x.key y.key) refl (same_kept xs ys f.1 g.1)
  where
    itself : (x : KeptKey) (xs : List KeptKey) → age_of (x ∷ xs) x.key ≡ Some x.age
    itself x xs = ap (λ (b : Bool). cond b (Some x.age) (age_of xs x.key)) (bytes_same x.key x.key refl)

    behind : x.key ≡ y.key → (q : List ℕ) → age_of xs q ≡ age_of ys q
    behind e q = split (bytes_eq q x.key) refl
      where
        split : (b : Bool) → bytes_eq q x.key ≡ b → age_of xs q ≡ age_of ys q
        split true is =
            let q_is = bytes_true q x.key is in
            ap (age_of xs) q_is ∙ age_none x.key xs f.0 ∙ sym (ap (age_of ys) (q_is ∙ e) ∙ age_none y.key ys g.0)
        split false is =
            let not_y : bytes_eq q y.key ≡ false = ap (bytes_eq q) (sym e) ∙ is in
            ap (λ (b : Bool). cond b (Some x.age) (age_of xs q)) (sym is) ∙ h q ∙ ap (λ (b : Bool). cond b (Some y.age) (age_of ys q)) not_y

    by : (o : Ordering) → compared x.key y.key ≡ o → (((q : List ℕ) → age_of xs q ≡ age_of ys q) → xs ≡ ys) → (x ∷ xs) ≡ (y ∷ ys)
    by Less is more = absurd (let no : Some x.age ≡ None = sym (itself x xs) ∙ h x.key ∙ age_none x.key (y ∷ ys) (is, above_more x.key y.key is ys g.0) in cc)
    by Equal is more =
        let e = exact_bytes x.key y.key is in
        let both : Some x.age ≡ Some y.age = sym (itself x xs) ∙ h x.key ∙ ap (age_of (y ∷ ys)) e ∙ itself y ys in
        let age : x.age ≡ y.age = cc in
        let rest : xs ≡ ys = more (behind e) in
        ap (λ (k : List ℕ). aged k x.age ∷ xs) e ∙ ap (λ (n : ℕ). aged y.key n ∷ xs) age ∙ ap (λ (ks : List KeptKey). y ∷ ks) rest
    by Greater is more =
        let lt = greater_turned x.key y.key is in
        absurd (let no : None ≡ Some y.age = sym (age_none y.key (x ∷ xs) (lt, above_more y.key x.key lt xs f.0)) ∙ h y.key ∙ itself y ys in cc)

-- what a command leaves of the ages of a table that has all keys that it needs
pub ages_kept : (texts keys : List (List ℕ)) (ages : List (Option ℕ)) → AreDistinct keys → length ages ≡ length keys → HasStill texts keys
    → kept_in keys (ages_after (marks_of texts keys) ages) ≡ kept_after texts (kept_in keys ages)
ages_kept texts keys ages distinct same there =
    same_kept (kept_in keys after) (kept_after texts (kept_in keys ages)) (rising_in keys after) (rising_new texts (older (kept_in keys ages)) (rising_older (kept_in keys ages) (rising_in keys ages)))
    (λ q.
    age_in keys after q (differ_of keys distinct) ∙ age_grown texts keys ages q same ∙ by q (has_name texts q) refl
    ∙ sym (age_new texts (older (kept_in keys ages)) q
    ∙ ap (λ (o : Option ℕ). cond (has_name texts q) (Some 0) o) (age_older (kept_in keys ages) q (rising_in keys ages) ∙ ap (age_after false) (age_in keys ages q (differ_of keys distinct)))))
  where
    after : List (Option ℕ)
    after = ages_after (marks_of texts keys) ages

    by : (q : List ℕ) (b : Bool) → has_name texts q ≡ b → cond (has_name keys q && has_name texts q) (Some 0) (age_after false (age_at keys ages q)) ≡ cond (has_name texts q) (Some 0) (age_after false (age_at keys ages q))
    by q true is = ap (λ (b : Bool). cond (b && has_name texts q) (Some 0) (age_after false (age_at keys ages q))) (there q is)
    by q false is = ap (λ (b : Bool). cond (has_name keys q && b) (Some 0) (age_after false (age_at keys ages q))) is ∙ none (has_name keys q) ∙ sym (ap (λ (b : Bool). cond b (Some 0) (age_after false (age_at keys ages q))) is)
      where
        none : (a : Bool) → cond (a && false) (Some 0) (age_after false (age_at keys ages q)) ≡ age_after false (age_at keys ages q)
        none true = refl
        none false = refl

-- a key is among the texts of kept keys where it has an age
pub among_texts : (kept : List KeptKey) (q : List ℕ) → has_name (texts_of kept) q ≡ is_some (age_of kept q)
among_texts [] q = refl
among_texts (k ∷ kept) q = by (bytes_eq q k.key) (among_texts kept q)
  where
    by : (b : Bool) → has_name (texts_of kept) q ≡ is_some (age_of kept q) → (b || has_name (texts_of kept) q) ≡ is_some (cond b (Some k.age) (age_of kept q))
    by true rest = refl
    by false rest = rest

-- the marked keys that have no age
abbrev pub unaged : List (List ℕ) → List Bool → List (Option ℕ) → List (List ℕ)
unaged [] marks ages = []
unaged (key ∷ keys) [] ages = []
unaged (key ∷ keys) (mark ∷ marks) [] = []
unaged (key ∷ keys) (mark ∷ marks) (age ∷ ages) = cond (mark && is_none age) (key ∷ unaged keys marks ages) (unaged keys marks ages)

unaged_many : (keys : List (List ℕ)) (marks : List Bool) (ages : List (Option ℕ)) → length marks ≡ length keys → length (unaged keys marks ages) ≡ new_places marks ages
unaged_many [] [] ages same = refl
unaged_many [] (mark ∷ marks) ages same = absurd (omega (arith, same))
unaged_many (key ∷ keys) [] ages same = refl
unaged_many (key ∷ keys) (mark ∷ marks) [] same = refl
unaged_many (key ∷ keys) (mark ∷ marks) (age ∷ ages) same = by (mark && is_none age) (unaged_many keys marks ages (omega (arith, same)))
  where
    by : (b : Bool) → length (unaged keys marks ages) ≡ new_places marks ages → length (cond b (key ∷ unaged keys marks ages) (unaged keys marks ages)) ≡ cond b 1 0 + new_places marks ages
    by true rest = omega (arith, rest)
    by false rest = omega (arith, rest)

none_unaged : (k : List ℕ) (keys : List (List ℕ)) (marks : List Bool) (ages : List (Option ℕ)) → NoneIs k keys → NoneIs k (unaged keys marks ages)
none_unaged k [] marks ages h = tt
none_unaged k (key ∷ keys) [] ages h = tt
none_unaged k (key ∷ keys) (mark ∷ marks) [] h = tt
none_unaged k (key ∷ keys) (mark ∷ marks) (age ∷ ages) h = by (mark && is_none age) (none_unaged k keys marks ages h.1)
  where
    by : (b : Bool) → NoneIs k (unaged keys marks ages) → NoneIs k (cond b (key ∷ unaged keys marks ages) (unaged keys marks ages))
    by true rest = (h.0, rest)
    by false rest = rest

unaged_differ : (keys : List (List ℕ)) (marks : List Bool) (ages : List (Option ℕ)) → AllDiffer keys → AllDiffer (unaged keys marks ages)
unaged_differ [] marks ages h = tt
unaged_differ (key ∷ keys) [] ages h = tt
unaged_differ (key ∷ keys) (mark ∷ marks) [] h = tt
unaged_differ (key ∷ keys) (mark ∷ marks) (age ∷ ages) h = by (mark && is_none age) (unaged_differ keys marks ages h.1)
  where
    by : (b : Bool) → AllDiffer (unaged keys marks ages) → AllDiffer (cond b (key ∷ unaged keys marks ages) (unaged keys marks ages))
    by true rest = (none_unaged key keys marks ages h.0, rest)
    by false rest = rest

absent : (q : List ℕ) (keys : List (List ℕ)) → NoneIs q keys → has_name keys q ≡ false
absent q [] h = refl
absent q (x ∷ keys) h = ap (λ (b : Bool). b || has_name keys q) (bytes_other x q h.0) ∙ absent q keys h.1

unaged_has : (texts keys : List (List ℕ)) (ages : List (Option ℕ)) (q : List ℕ) → AllDiffer keys → length ages ≡ length keys
    → has_name (unaged keys (marks_of texts keys) ages) q ≡ (has_name keys q && (has_name texts q && is_none (age_at keys ages q)))
unaged_has texts [] ages q h same = refl
unaged_has texts (key ∷ keys) [] q h same = absurd (omega (arith, same))
unaged_has texts (key ∷ keys) (age ∷ ages) q h same = by (bytes_eq q key) refl (has_name texts key && is_none age) refl (unaged_has texts keys ages q h.1 (omega (arith, same)))
  where
    rest : List (List ℕ)
    rest = unaged keys (marks_of texts keys) ages

    by : (a : Bool) → bytes_eq q key ≡ a → (b : Bool) → (has_name texts key && is_none age) ≡ b
        → has_name rest q ≡ (has_name keys q && (has_name texts q && is_none (age_at keys ages q)))
        → has_name (cond b (key ∷ rest) rest) q ≡ ((a || has_name keys q) && (has_name texts q && is_none (cond a age (age_at keys ages q))))
    by true is true new more =
        ap (λ (b : Bool). b || has_name rest q) is ∙ sym (ap (λ (k : List ℕ). has_name texts k && is_none age) (bytes_true q key is) ∙ new)
    by true is false new more =
        ap (has_name rest) (bytes_true q key is) ∙ absent key rest (none_unaged key keys (marks_of texts keys) ages h.0)
        ∙ sym (ap (λ (k : List ℕ). has_name texts k && is_none age) (bytes_true q key is) ∙ new)
    by false is true new more = ap (λ (b : Bool). b || has_name rest q) is ∙ more
    by false is false new more = more

-- the places that are new are as many as the keys that are not kept
pub places_count : (texts keys : List (List ℕ)) (ages : List (Option ℕ)) → AreDistinct keys → length ages ≡ length keys → HasStill texts keys
    → new_places (marks_of texts keys) ages ≡ new_count (texts_of (kept_in keys ages)) texts
places_count texts keys ages distinct same there =
    sym (unaged_many keys (marks_of texts keys) ages (marks_many keys))
    ∙ length-from_keys nat_list_eq_equiv (unaged keys (marks_of texts keys) ages) (filter (λ key. not (has_name kept key)) texts)
    (distinct_of (unaged keys (marks_of texts keys) ages) (unaged_differ keys (marks_of texts keys) ages (differ_of keys distinct)))
    (λ q. unaged_has texts keys ages q (differ_of keys distinct) same ∙ by q (has_name texts q) refl ∙ sym (among_filtered (λ key. not (has_name kept key)) q texts))
  where
    kept : List (List ℕ)
    kept = texts_of (kept_in keys ages)

    marks_many : (ks : List (List ℕ)) → length (marks_of texts ks) ≡ length ks
    marks_many [] = refl
    marks_many (k ∷ ks) = ap suc (marks_many ks)

    new : (q : List ℕ) → is_none (age_at keys ages q) ≡ not (has_name kept q)
    new q = ap (λ (b : Bool). not b) (sym (among_texts (kept_in keys ages) q ∙ ap is_some (age_in keys ages q (differ_of keys distinct))))

    by : (q : List ℕ) (b : Bool) → has_name texts q ≡ b → (has_name keys q && (has_name texts q && is_none (age_at keys ages q))) ≡ (has_name texts q && not (has_name kept q))
    by q true is =
        ap (λ (b : Bool). b && (has_name texts q && is_none (age_at keys ages q))) (there q is)
        ∙ ap (λ (b : Bool). has_name texts q && b) (new q)
    by q false is =
        ap (λ (b : Bool). has_name keys q && (b && is_none (age_at keys ages q))) is ∙ none (has_name keys q) ∙ sym (ap (λ (b : Bool). b && not (has_name kept q)) is)
      where
        none : (a : Bool) → (a && false) ≡ false
        none true = refl
        none false = refl

-- a key is too old where that of its place is
too_old_none : (key : List ℕ) (keys : List (List ℕ)) (marks : List Bool) (ages : List (Option ℕ)) → NoneIs key keys → has_name (too_old marks keys ages) key ≡ false
too_old_none key [] marks ages h = refl
too_old_none key (x ∷ keys) [] ages h = refl
too_old_none key (x ∷ keys) (mark ∷ marks) [] h = refl
too_old_none key (x ∷ keys) (mark ∷ marks) (age ∷ ages) h = by (is_too_old mark age) (too_old_none key keys marks ages h.1)
  where
    by : (b : Bool) → has_name (too_old marks keys ages) key ≡ false → has_name (cond b (x ∷ too_old marks keys ages) (too_old marks keys ages)) key ≡ false
    by true rest = ap (λ (b : Bool). b || has_name (too_old marks keys ages) key) (bytes_other x key h.0) ∙ rest
    by false rest = rest

too_old_has : (texts keys : List (List ℕ)) (ages : List (Option ℕ)) (q : List ℕ) → AllDiffer keys → has_name (too_old (marks_of texts keys) keys ages) q ≡ is_too_old (has_name texts q) (age_at keys ages q)
too_old_has texts [] ages q h = never (has_name texts q)
  where
    never : (b : Bool) → false ≡ is_too_old b None
    never true = refl
    never false = refl
too_old_has texts (key ∷ keys) [] q h = never (has_name texts q)
  where
    never : (b : Bool) → false ≡ is_too_old b None
    never true = refl
    never false = refl
too_old_has texts (key ∷ keys) (age ∷ ages) q h = by (bytes_eq q key) refl (is_too_old (has_name texts key) age) refl (too_old_has texts keys ages q h.1)
  where
    rest : List (List ℕ)
    rest = too_old (marks_of texts keys) keys ages

    by : (a : Bool) → bytes_eq q key ≡ a → (b : Bool) → is_too_old (has_name texts key) age ≡ b → has_name rest q ≡ is_too_old (has_name texts q) (age_at keys ages q)
        → has_name (cond b (key ∷ rest) rest) q ≡ is_too_old (has_name texts q) (cond a age (age_at keys ages q))
    by true is true old more = ap (λ (b : Bool). b || has_name rest q) is ∙ sym (ap (λ (k : List ℕ). is_too_old (has_name texts k) age) (bytes_true q key is) ∙ old)
    by true is false old more =
        ap (has_name rest) (bytes_true q key is) ∙ too_old_none key keys (marks_of texts keys) ages h.0
        ∙ sym (ap (λ (k : List ℕ). is_too_old (has_name texts k) age) (bytes_true q key is) ∙ old)
    by false is true old more = ap (λ (b : Bool). b || has_name rest q) is ∙ more
    by false is false old more = more

-- what has an age after a command that needed these keys is kept still, where the seats keep what had an age before and what
-- it needed
pub still_aged : (texts keys kept : List (List ℕ)) (ages : List (Option ℕ)) → AreDistinct keys → length ages ≡ length keys → HasStill (texts_of (kept_in keys ages)) kept → HasStill texts kept
    → HasStill (texts_of (kept_in keys (ages_after (marks_of texts keys) ages))) (without (too_old (marks_of texts keys) keys ages) kept)
still_aged texts keys kept ages distinct same before needed q is =
    among_filtered (λ key. not (has_name gone key)) q kept
    ∙ by (has_name texts q) refl (age_at keys ages q) refl
    (sym (ap is_some (age_in keys (ages_after (marks_of texts keys) ages) q differ ∙ age_grown texts keys ages q same)) ∙ sym (among_texts (kept_in keys (ages_after (marks_of texts keys) ages)) q) ∙ is)
  where
    differ : AllDiffer keys
    differ = differ_of keys distinct

    gone : List (List ℕ)
    gone = too_old (marks_of texts keys) keys ages

    gone_is : has_name gone q ≡ is_too_old (has_name texts q) (age_at keys ages q)
    gone_is = too_old_has texts keys ages q differ

    both : has_name kept q ≡ true → has_name gone q ≡ false → (has_name kept q && not (has_name gone q)) ≡ true
    both a b = ap (λ (x : Bool). x && not (has_name gone q)) a ∙ ap (λ (x : Bool). not x) b

    never : (a : Bool) → cond {A = Option ℕ} (a && false) (Some 0) None ≡ None
    never true = refl
    never false = refl

    by : (m : Bool) → has_name texts q ≡ m → (o : Option ℕ) → age_at keys ages q ≡ o
        → is_some (cond (has_name keys q && has_name texts q) (Some 0) (age_after false (age_at keys ages q))) ≡ true
        → (has_name kept q && not (has_name gone q)) ≡ true
    by true mark o old some = both (needed q mark) (gone_is ∙ ap (λ (b : Bool). is_too_old b (age_at keys ages q)) mark)
    by false mark None old some =
        absurd (true≢false (sym some ∙ ap is_some (ap (λ (b : Bool). cond (has_name keys q && b) (Some 0) (age_after false (age_at keys ages q))) mark ∙ ap (λ (o : Option ℕ). cond (has_name keys q && false) (Some 0) (age_after false o)) old ∙ never (has_name keys q))))
    by false mark (Some a) old some = split (nat_lt a oldest) refl
      where
        other : (b : Bool) → cond (b && false) (Some 0) (age_after false (Some a)) ≡ age_after false (Some a)
        other true = refl
        other false = refl

        split : (b : Bool) → nat_lt a oldest ≡ b → (has_name kept q && not (has_name gone q)) ≡ true
        split true young =
            both (before q (among_texts (kept_in keys ages) q ∙ ap is_some (age_in keys ages q differ ∙ old)))
            (gone_is ∙ ap (λ (b : Bool). is_too_old b (age_at keys ages q)) mark ∙ ap (is_too_old false) old ∙ ap (λ (b : Bool). cond b false true) young)
        split false aged_out =
            absurd (true≢false (sym some ∙ ap is_some (ap (λ (b : Bool). cond (has_name keys q && b) (Some 0) (age_after false (age_at keys ages q))) mark ∙ ap (λ (o : Option ℕ). cond (has_name keys q && false) (Some 0) (age_after false o)) old
            ∙ other (has_name keys q) ∙ ap (λ (b : Bool). cond b (Some (a + 1)) None) aged_out)))

-- what a command needed is kept still
pub still_needed : (texts keys kept : List (List ℕ)) (ages : List (Option ℕ)) → AreDistinct keys → HasStill texts kept → HasStill texts (without (too_old (marks_of texts keys) keys ages) kept)
still_needed texts keys kept ages distinct needed q is =
    among_filtered (λ key. not (has_name (too_old (marks_of texts keys) keys ages) key)) q kept
    ∙ ap (λ (x : Bool). x && not (has_name (too_old (marks_of texts keys) keys ages) q)) (needed q is)
    ∙ ap (λ (x : Bool). not x) (too_old_has texts keys ages q (differ_of keys distinct) ∙ ap (λ (b : Bool). is_too_old b (age_at keys ages q)) is)

-- no age passes the greatest
pub young_after : (marks : List Bool) (ages : List (Option ℕ)) (at age : ℕ) → slice_get (ages_after marks ages) at ≡ Some (Some age) → age ≤ oldest
young_after [] ages at age is = absurd (let no : None ≡ Some (Some age) = is in cc)
young_after (mark ∷ marks) [] at age is = absurd (let no : None ≡ Some (Some age) = is in cc)
young_after (mark ∷ marks) (old ∷ ages) (suc at) age is = young_after marks ages at age is
young_after (mark ∷ marks) (old ∷ ages) zero age is = by mark old (let e : age_after mark old ≡ Some age = cc in e)
  where
    by : (b : Bool) (o : Option ℕ) → age_after b o ≡ Some age → age ≤ oldest
    by true o h = let e : 0 ≡ age = cc in omega (arith, e)
    by false None h = absurd (let no : None ≡ Some age = h in cc)
    by false (Some a) h = split (nat_lt a oldest) refl h
      where
        split : (b : Bool) → nat_lt a oldest ≡ b → cond b (Some (a + 1)) None ≡ Some age → age ≤ oldest
        split true young h = let e : a + 1 ≡ age = cc in let l = ltb-true a oldest young in omega (arith, e, l)
        split false young h = absurd (let no : None ≡ Some age = h in cc)

-- no place from the end on is new
pub new_end : (n : ℕ) (marks : List Bool) (ages : List (Option ℕ)) → min (length marks) (length ages) ≤ n → new_places (drop n marks) (drop n ages) ≡ 0
new_end zero [] ages h = refl
new_end zero (m ∷ marks) [] h = refl
new_end zero (m ∷ marks) (o ∷ ages) h = absurd (omega (arith, h))
new_end (suc n) [] ages h = refl
new_end (suc n) (m ∷ marks) [] h = gone (drop n marks)
  where
    gone : (xs : List Bool) → new_places xs [] ≡ 0
    gone [] = refl
    gone (x ∷ xs) = refl
new_end (suc n) (m ∷ marks) (o ∷ ages) h = new_end n marks ages (omega (arith, h))

-- what was read at a place of a table with marks: the mark and the age there
pub record IsMarked (marks : List Bool) (keys : List (List ℕ)) (ages : List (Option ℕ)) (n : ℕ) (mark : Bool) (age : Option ℕ) : Type 0 where
  pub in_marks : n < length marks
  pub in_keys : n < length keys
  pub in_ages : n < length ages
  pub mark_is : mark ≡ get_or marks n false
  pub age_is : age ≡ get_or ages n age

module _ (marks : List Bool) (keys : List (List ℕ)) (ages : List (Option ℕ)) (n : ℕ) (mark : Bool) (age : Option ℕ) (here : IsMarked marks keys ages n mark age) where
  -- the keys from one on that are too old
  too_old_at : too_old (drop n marks) (drop n keys) (drop n ages) ≡ cond (is_too_old mark age) (get_or keys n [] ∷ too_old (drop (n + 1) marks) (drop (n + 1) keys) (drop (n + 1) ages)) (too_old (drop (n + 1) marks) (drop (n + 1) keys) (drop (n + 1) ages))
  too_old_at =
      ap (λ (ms : List Bool). too_old ms (drop n keys) (drop n ages)) (drop_more marks n false here.in_marks ∙ ap (λ (m : Bool). m ∷ drop (n + 1) marks) (sym here.mark_is))
      ∙ ap (λ (ks : List (List ℕ)). too_old (mark ∷ drop (n + 1) marks) ks (drop n ages)) (drop_more keys n [] here.in_keys)
      ∙ ap (too_old (mark ∷ drop (n + 1) marks) (get_or keys n [] ∷ drop (n + 1) keys)) (drop_more ages n age here.in_ages ∙ ap (λ (a : Option ℕ). a ∷ drop (n + 1) ages) (sym here.age_is))

  -- one that is too old is the next of them
  pub too_old_more : (xs : List (List ℕ)) (key : List ℕ) → slice_get keys n ≡ Some key → is_too_old mark age ≡ true → xs ++ too_old (drop n marks) (drop n keys) (drop n ages) ≡ too_old marks keys ages
      → (xs ++ key ∷ []) ++ too_old (drop (n + 1) marks) (drop (n + 1) keys) (drop (n + 1) ages) ≡ too_old marks keys ages
  too_old_more xs key there old all =
      let rest = too_old (drop (n + 1) marks) (drop (n + 1) keys) (drop (n + 1) ages) in
      append_assoc xs (key ∷ []) rest
      ∙ ap (λ (ks : List (List ℕ)). xs ++ ks) (ap (λ (k : List ℕ). k ∷ rest) (sym (get_or_from_slice_get keys n key [] there)) ∙ sym (too_old_at ∙ ap (λ (b : Bool). cond b (get_or keys n [] ∷ rest) rest) old))
      ∙ all

  -- one that is not is passed over
  pub too_old_skip : (xs : List (List ℕ)) → is_too_old mark age ≡ false → xs ++ too_old (drop n marks) (drop n keys) (drop n ages) ≡ too_old marks keys ages
      → xs ++ too_old (drop (n + 1) marks) (drop (n + 1) keys) (drop (n + 1) ages) ≡ too_old marks keys ages
  too_old_skip xs young all =
      let rest = too_old (drop (n + 1) marks) (drop (n + 1) keys) (drop (n + 1) ages) in
      ap (λ (ks : List (List ℕ)). xs ++ ks) (sym (too_old_at ∙ ap (λ (b : Bool). cond b (get_or keys n [] ∷ rest) rest) young)) ∙ all
