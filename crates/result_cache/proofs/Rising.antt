-- Keys in rising order.
use Rattle.std.proofs.Common.{◌≡◌, ℕ, List, [], ◌∷◌, Bool, true, false, ◌&&◌, ◌||◌, cond, true≢false, refl, sym, ap, ◌∙◌, filter}
use Rattle.std.specs.Cmp.Lexicographic.{slice_cmp}
use Rattle.std.specs.Ordering.{nat_cmp, match_ordering, ordering_reverse}
use Rattle.std.specs.Str.{bytes_eq}
use Rattle.std.specs.declared.cmp.Ordering.{Ordering}
use Rattle.std.specs.declared.cmp.Ordering.TheVariants.{Less, Equal, Greater}
use Rattle.std.proofs.lemmas.Cmp.{nat_list_cmp_total, tied_itself}
use Rattle.std.proofs.lemmas.Map.Lookups.{exact_bytes}
use Rattle.rtl_sig.specs.Names.{has_name}
use Rattle.result_cache.specs.Filled.{with_key, in_rising_order}
use Rattle.result_cache.proofs.Keys.{bytes_same, bytes_true}

abbrev compared : List ℕ → List ℕ → Ordering
compared x y = slice_cmp nat_cmp x y

-- each of these keys is greater
abbrev pub AreAbove : List ℕ → List (List ℕ) → Type 0
AreAbove key [] = Unit {0}
AreAbove key (k ∷ keys) = (slice_cmp nat_cmp key k ≡ Less) × AreAbove key keys

-- each key is greater than those before it
abbrev pub AreRising : List (List ℕ) → Type 0
AreRising [] = Unit {0}
AreRising (k ∷ keys) = AreAbove k keys × AreRising keys

above_more : (a b : List ℕ) → compared a b ≡ Less → (keys : List (List ℕ)) → AreAbove b keys → AreAbove a keys
above_more a b lt [] h = tt
above_more a b lt (k ∷ keys) h = (nat_list_cmp_total.trans a b k lt h.0, above_more a b lt keys h.1)

greater_turned : (a b : List ℕ) → compared a b ≡ Greater → compared b a ≡ Less
greater_turned a b gt = nat_list_cmp_total.antisymm b a ∙ ap ordering_reverse gt

above_with : (k key : List ℕ) (keys : List (List ℕ)) → compared k key ≡ Less → AreAbove k keys → AreAbove k (with_key key keys)
above_with k key [] lt h = (lt, tt)
above_with k key (x ∷ keys) lt h = by (compared key x) (above_with k key keys lt h.1)
  where
    by : (o : Ordering) → AreAbove k (with_key key keys) → AreAbove k (match_ordering o (key ∷ x ∷ keys) (x ∷ keys) (x ∷ with_key key keys))
    by Less rest = (lt, h)
    by Equal rest = h
    by Greater rest = (h.0, rest)

rising_with : (key : List ℕ) (keys : List (List ℕ)) → AreRising keys → AreRising (with_key key keys)
rising_with key [] h = (tt, tt)
rising_with key (x ∷ keys) h = by (compared key x) refl (rising_with key keys h.1)
  where
    by : (o : Ordering) → compared key x ≡ o → AreRising (with_key key keys) → AreRising (match_ordering o (key ∷ x ∷ keys) (x ∷ keys) (x ∷ with_key key keys))
    by Less is rest = ((is, above_more key x is keys h.0), h)
    by Equal is rest = h
    by Greater is rest = (above_with x key keys (greater_turned key x is) h.0, rest)

pub rising_order : (keys : List (List ℕ)) → AreRising (in_rising_order keys)
rising_order [] = tt
rising_order (k ∷ keys) = rising_with k (in_rising_order keys) (rising_order keys)

twice : (a b : Bool) → (a || b) ≡ (a || (a || b))
twice true b = refl
twice false b = refl

turned : (a b c : Bool) → (a || (b || c)) ≡ (b || (a || c))
turned true true c = refl
turned true false c = refl
turned false b c = refl

-- one is among keys with one more where it is that one or among them
pub among_with : (q key : List ℕ) (keys : List (List ℕ)) → has_name (with_key key keys) q ≡ (bytes_eq q key || has_name keys q)
among_with q key [] = refl
among_with q key (x ∷ keys) = by (compared key x) refl (among_with q key keys)
  where
    by : (o : Ordering) → compared key x ≡ o → has_name (with_key key keys) q ≡ (bytes_eq q key || has_name keys q)
        → has_name (match_ordering o (key ∷ x ∷ keys) (x ∷ keys) (x ∷ with_key key keys)) q ≡ (bytes_eq q key || (bytes_eq q x || has_name keys q))
    by Less is rest = refl
    by Equal is rest =
        twice (bytes_eq q x) (has_name keys q) ∙ ap (λ (k : List ℕ). bytes_eq q k || (bytes_eq q x || has_name keys q)) (sym (exact_bytes key x is))
    by Greater is rest = ap (λ (b : Bool). bytes_eq q x || b) rest ∙ turned (bytes_eq q x) (bytes_eq q key) (has_name keys q)

pub among_order : (q : List ℕ) (keys : List (List ℕ)) → has_name (in_rising_order keys) q ≡ has_name keys q
among_order q [] = refl
among_order q (k ∷ keys) = among_with q k (in_rising_order keys) ∙ ap (λ (b : Bool). bytes_eq q k || b) (among_order q keys)

-- a key is not among those that are greater
not_above : (k : List ℕ) (keys : List (List ℕ)) → AreAbove k keys → has_name keys k ≡ false
not_above k [] h = refl
not_above k (x ∷ keys) h = by (bytes_eq k x) refl (not_above k keys h.1)
  where
    by : (b : Bool) → bytes_eq k x ≡ b → has_name keys k ≡ false → (b || has_name keys k) ≡ false
    by true is rest = absurd (let tie : compared k x ≡ Equal = ap (compared k) (sym (bytes_true k x is)) ∙ tied_itself nat_list_cmp_total k in let both : Less ≡ Equal = sym h.0 ∙ tie in cc)
    by false is rest = rest

-- a key that is less than the first of rising keys is none of them
not_less : (k x : List ℕ) (keys : List (List ℕ)) → compared k x ≡ Less → AreRising (x ∷ keys) → has_name (x ∷ keys) k ≡ false
not_less k x keys lt h = not_above k (x ∷ keys) (lt, above_more k x lt keys h.0)

itself : (k : List ℕ) (keys : List (List ℕ)) → has_name (k ∷ keys) k ≡ true
itself k keys = ap (λ (b : Bool). b || has_name keys k) (bytes_same k k refl)

-- rising keys are told by which keys are among them
pub same_rising : (xs ys : List (List ℕ)) → AreRising xs → AreRising ys → ((q : List ℕ) → has_name xs q ≡ has_name ys q) → xs ≡ ys
same_rising [] [] f g h = refl
same_rising [] (y ∷ ys) f g h = absurd (true≢false (sym (itself y ys) ∙ sym (h y)))
same_rising (x ∷ xs) [] f g h = absurd (true≢false (sym (itself x xs) ∙ h x))
same_rising (x ∷ xs) (y ∷ ys) f g h = by (compared x y) refl (same_rising xs ys f.1 g.1)
  where
    behind : x ≡ y → (q : List ℕ) → has_name xs q ≡ has_name ys q
    behind e q = split (bytes_eq q x) refl
      where
        split : (b : Bool) → bytes_eq q x ≡ b → has_name xs q ≡ has_name ys q
        split true is =
            let q_is = bytes_true q x is in
            ap (has_name xs) q_is ∙ not_above x xs f.0
            ∙ sym (ap (has_name ys) (q_is ∙ e) ∙ not_above y ys g.0)
        split false is =
            let not_y : bytes_eq q y ≡ false = ap (bytes_eq q) (sym e) ∙ is in
            ap (λ (b : Bool). b || has_name xs q) (sym is) ∙ h q ∙ ap (λ (b : Bool). b || has_name ys q) not_y

    by : (o : Ordering) → compared x y ≡ o → (((q : List ℕ) → has_name xs q ≡ has_name ys q) → xs ≡ ys) → (x ∷ xs) ≡ (y ∷ ys)
    by Less is more = absurd (true≢false (sym (itself x xs) ∙ h x ∙ not_less x y ys is g))
    by Equal is more =
        let e = exact_bytes x y is in
        let rest : xs ≡ ys = more (behind e) in
        ap (λ (k : List ℕ). k ∷ xs) e ∙ ap (λ (ks : List (List ℕ)). y ∷ ks) rest
    by Greater is more = absurd (true≢false (sym (itself y ys) ∙ sym (h y) ∙ not_less y x xs (greater_turned x y is) f))

-- a key is among the ones that pass a test where it is among them and passes it
pub among_filtered : (f : List ℕ → Bool) (q : List ℕ) (keys : List (List ℕ)) → has_name (filter f keys) q ≡ (has_name keys q && f q)
among_filtered f q [] = refl
among_filtered f q (k ∷ keys) = by (f k) refl (bytes_eq q k) refl (among_filtered f q keys)
  where
    by : (a : Bool) → f k ≡ a → (b : Bool) → bytes_eq q k ≡ b → has_name (filter f keys) q ≡ (has_name keys q && f q)
        → has_name (cond a (k ∷ filter f keys) (filter f keys)) q ≡ ((b || has_name keys q) && f q)
    by true fk true is rest =
        let fq : f q ≡ true = ap f (bytes_true q k is) ∙ fk in
        ap (λ (b : Bool). b || has_name (filter f keys) q) is ∙ sym fq
    by true fk false is rest = ap (λ (b : Bool). b || has_name (filter f keys) q) is ∙ rest
    by false fk true is rest =
        let fq : f q ≡ false = ap f (bytes_true q k is) ∙ fk in
        rest ∙ none (has_name keys q) (f q) fq ∙ sym fq
      where
        none : (a b : Bool) → b ≡ false → (a && b) ≡ false
        none true b e = e
        none false b e = refl
    by false fk false is rest = rest

-- rising keys stay as they are where one is put among them that is one of them
pub with_known : (key : List ℕ) (keys : List (List ℕ)) → has_name (in_rising_order keys) key ≡ true → with_key key (in_rising_order keys) ≡ in_rising_order keys
with_known key keys known =
    same_rising (with_key key (in_rising_order keys)) (in_rising_order keys) (rising_order (key ∷ keys)) (rising_order keys)
    (λ q. among_with q key (in_rising_order keys) ∙ by q (bytes_eq q key) refl)
  where
    by : (q : List ℕ) (b : Bool) → bytes_eq q key ≡ b → (b || has_name (in_rising_order keys) q) ≡ has_name (in_rising_order keys) q
    by q true is = sym (ap (has_name (in_rising_order keys)) (bytes_true q key is) ∙ known)
    by q false is = refl
