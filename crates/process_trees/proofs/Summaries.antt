-- What two lists of leaves come to together.
use Rattle.std.proofs.Common.{◌≡◌, Bool, true, false, List, [], ◌∷◌, ◌++◌, Option, Some, None, if◌then◌else◌, refl, sym, ap, ◌∙◌, append_assoc, append-nil, rules}
use Rattle.std.specs.Prelude.{◌&&◌, ◌||◌, flat_map, not}
use Rattle.std.specs.List.{list_all, list_any}
use Rattle.rtl_bits.specs.declared.bit.Bit.{Bit}
use Rattle.rtl_bits.specs.declared.bit.Bit.TheVariants.{S0, S1, X, Z, M, Dash}
use Rattle.rtl_sig.specs.declared.sig.SigBit.{SigBit}
use Rattle.rtl_sig.specs.declared.sig.SigBit.TheVariants.{Fixed, Wire as OnWire}
use Rattle.rtl_sig.specs.declared.sig.WireBit.{WireBit}
use Rattle.rtl_ir.specs.EventTests.{is_bit}
use Rattle.rtl_ir.specs.Signals.{same_place, same_value}
use Rattle.rtl_ir.proofs.SamePlaces.{place_is}
use Rattle.process_trees.specs.declared.summary.Summary.{Summary}
use Rattle.process_trees.specs.Leaves.{both, is_asked, joined, joined_over, one_leaf, sources_summary, summary_of}

-- two lists have the same items: a test that one of the first meets, one of the second meets, and the other way round
abbrev pub AreAlike : List SigBit → List SigBit → Type 0
AreAlike xs ys = (f : SigBit → Bool) → list_any f xs ≡ list_any f ys

-- a list has an item
abbrev pub HasItem : {A : Type 0} → List A → Type 0
HasItem [] = ⊥
HasItem (x ∷ xs) = Unit {0}

all_append : (f : SigBit → Bool) (xs ys : List SigBit) → list_all f (xs ++ ys) ≡ (list_all f xs && list_all f ys)
all_append f [] ys = refl
all_append f (x ∷ xs) ys = ap (λ t. f x && t) (all_append f xs ys) ∙ by (f x) (list_all f xs) (list_all f ys)
  where
    by : (a b c : Bool) → (a && (b && c)) ≡ ((a && b) && c)
    by true b c = refl
    by false b c = refl

pub any_append : (f : SigBit → Bool) (xs ys : List SigBit) → list_any f (xs ++ ys) ≡ (list_any f xs || list_any f ys)
any_append f [] ys = refl
any_append f (x ∷ xs) ys = ap (λ t. f x || t) (any_append f xs ys) ∙ by (f x) (list_any f xs) (list_any f ys)
  where
    by : (a b c : Bool) → (a || (b || c)) ≡ ((a || b) || c)
    by true b c = refl
    by false b c = refl

one_append : (xs ys : List SigBit) → HasItem xs → HasItem ys → one_leaf (xs ++ ys) ≡ both (one_leaf xs) (one_leaf ys)
one_append [] ys h k = absurd h
one_append (x ∷ xs) [] h k = absurd k
one_append (x ∷ xs) (y ∷ ys) h k =
    ap (λ t. if t then Some x else None) (all_append (same_place x) xs (y ∷ ys)) ∙ by (list_all (same_place x) xs)
  where
    same : (t : Bool) → same_place x y ≡ t
        → (if t && list_all (same_place x) ys then Some x else None) ≡ both (Some x) (if list_all (same_place y) ys then Some y else None)
    same true e = at (list_all (same_place y) ys) (ap (λ (s : SigBit). list_all (same_place s) ys) (place_is x y e))
      where
        at : (u : Bool) → list_all (same_place x) ys ≡ u → (if list_all (same_place x) ys then Some x else None) ≡ both (Some x) (if u then Some y else None)
        at true f = ap (λ v. if v then Some x else None) f ∙ sym (ap (λ v. if v then Some x else None) e)
        at false f = ap (λ v. if v then Some x else None) f
    same false e = at (list_all (same_place y) ys)
      where
        at : (u : Bool) → None ≡ both (Some x) (if u then Some y else None)
        at true = sym (ap (λ v. if v then Some x else None) e)
        at false = refl

    by : (t : Bool) → (if t && (same_place x y && list_all (same_place x) ys) then Some x else None) ≡ both (if t then Some x else None) (if list_all (same_place y) ys then Some y else None)
    by false = refl
    by true = same (same_place x y) refl

pub summary_append : (asked : Option WireBit) (xs ys : List SigBit) → HasItem xs → HasItem ys → summary_of asked (xs ++ ys) ≡ joined (summary_of asked xs) (summary_of asked ys)
summary_append asked xs ys h k = λ i. record { only = one_append xs ys h k i; asked = any_append (is_asked asked) xs ys i }

-- ---- whether all leaves are a bit

all_more : (f g : SigBit → Bool) → ((s : SigBit) → f s ≡ true → g s ≡ true) → (xs : List SigBit) → list_all f xs ≡ true → list_all g xs ≡ true
all_more f g h [] e = refl
all_more f g h (x ∷ xs) e = by (f x) (list_all f xs) refl refl (all_more f g h xs) e
  where
    by : (s t : Bool) → f x ≡ s → list_all f xs ≡ t → (list_all f xs ≡ true → list_all g xs ≡ true) → (s && t) ≡ true → (g x && list_all g xs) ≡ true
    by true true k l rest m = (λ i. h x k i && rest l i)
    by true false k l rest m = absurd cc
    by false t k l rest m = absurd cc

bit_is : (q : WireBit) (s : SigBit) → is_bit q s ≡ true → OnWire q ≡ s
bit_is q (Fixed c) e = absurd cc
bit_is q (OnWire a) e = let same : q ≡ a = search (rules, e) in ap OnWire same

same_itself : (q : WireBit) → same_place (OnWire q) (OnWire q) ≡ true
same_itself q = search rules

pub none_all : (q : WireBit) (leaves : List SigBit) → HasItem leaves → one_leaf leaves ≡ None → list_all (is_bit q) leaves ≡ false
none_all q [] h e = absurd h
none_all q (s ∷ leaves) h e = by (is_bit q s) (list_all (is_bit q) leaves) refl refl
  where
    by : (a b : Bool) → is_bit q s ≡ a → list_all (is_bit q) leaves ≡ b → (is_bit q s && list_all (is_bit q) leaves) ≡ false
    by false b k l = ap (λ t. t && list_all (is_bit q) leaves) k
    by true false k l = (λ i. k i && l i)
    by true true k l =
        let here : OnWire q ≡ s = bit_is q s k in
        let all : list_all (same_place s) leaves ≡ true = all_more (is_bit q) (same_place s) (λ t m. (λ i. same_place (sym here i) (sym (bit_is q t m) i)) ∙ same_itself q) leaves l in
        absurd (let some : Some s ≡ None = sym (ap (λ t. if t then Some s else None) all) ∙ e in cc)

pub some_all : (q : WireBit) (leaves : List SigBit) (t : SigBit) → one_leaf leaves ≡ Some t → is_bit q t ≡ list_all (is_bit q) leaves
some_all q [] t e = absurd cc
some_all q (s ∷ leaves) t e = by (list_all (same_place s) leaves) refl e
  where
    rest : list_all (same_place s) leaves ≡ true → (a : Bool) → is_bit q s ≡ a → a ≡ (a && list_all (is_bit q) leaves)
    rest all false k = refl
    rest all true k = sym (all_more (same_place s) (is_bit q) (λ u m. ap (is_bit q) (sym (place_is s u m)) ∙ k) leaves all)

    by : (a : Bool) → list_all (same_place s) leaves ≡ a → (if a then Some s else None) ≡ Some t → is_bit q t ≡ (is_bit q s && list_all (is_bit q) leaves)
    by true all f = let same : s ≡ t = cc in ap (is_bit q) (sym same) ∙ rest all (is_bit q s) refl
    by false all f = absurd cc

-- ---- what lists of the same items come to

all_any : (f : SigBit → Bool) (xs : List SigBit) → list_all f xs ≡ not (list_any (λ s. not (f s)) xs)
all_any f [] = refl
all_any f (x ∷ xs) = by (f x) (all_any f xs)
  where
    by : (t : Bool) → list_all f xs ≡ not (list_any (λ s. not (f s)) xs) → (t && list_all f xs) ≡ not (not t || list_any (λ s. not (f s)) xs)
    by true e = e
    by false e = refl

all_alike : (xs ys : List SigBit) → AreAlike xs ys → (f : SigBit → Bool) → list_all f xs ≡ list_all f ys
all_alike xs ys h f = all_any f xs ∙ ap not (h (λ s. not (f s))) ∙ sym (all_any f ys)

value_itself : (a : Bit) → same_value a a ≡ true
value_itself S0 = refl
value_itself S1 = refl
value_itself X = refl
value_itself Z = refl
value_itself M = refl
value_itself Dash = refl

place_itself : (s : SigBit) → same_place s s ≡ true
place_itself (Fixed a) = value_itself a
place_itself (OnWire a) = same_itself a

first_met : (a b : Bool) → (a && b) ≡ true → a ≡ true
first_met true b e = refl
first_met false b e = e

-- where all are the first, that is the first of the others too
one_alike : (x : SigBit) (xs : List SigBit) (y : SigBit) (ys : List SigBit) → AreAlike (x ∷ xs) (y ∷ ys) → one_leaf (x ∷ xs) ≡ one_leaf (y ∷ ys)
one_alike x xs y ys h = by (list_all (same_place x) xs) (list_all (same_place y) ys) refl refl
  where
    left : list_all (same_place x) xs ≡ true → x ≡ y
    left e =
        place_is x y
        (first_met (same_place x y) (list_all (same_place x) ys)
        (sym (all_alike (x ∷ xs) (y ∷ ys) h (same_place x)) ∙ (λ i. place_itself x i && e i)))

    right : list_all (same_place y) ys ≡ true → y ≡ x
    right e =
        place_is y x
        (first_met (same_place y x) (list_all (same_place y) xs)
        (all_alike (x ∷ xs) (y ∷ ys) h (same_place y) ∙ (λ i. place_itself y i && e i)))

    -- all of one list are its first, and so all of the other
    over : (u v : SigBit) (us vs : List SigBit) → list_all (same_place u) (u ∷ us) ≡ list_all (same_place u) (v ∷ vs) → u ≡ v → list_all (same_place u) us ≡ list_all (same_place v) vs
    over u v us vs all same =
        sym (ap (λ t. t && list_all (same_place u) us) (place_itself u)) ∙ all
        ∙ (λ i. same_place (same i) v && list_all (same_place (same i)) vs)
        ∙ ap (λ t. t && list_all (same_place v) vs) (place_itself v)

    by : (a b : Bool) → list_all (same_place x) xs ≡ a → list_all (same_place y) ys ≡ b → one_leaf (x ∷ xs) ≡ one_leaf (y ∷ ys)
    by false false k l = ap (λ t. if t then Some x else None) k ∙ sym (ap (λ t. if t then Some y else None) l)
    by true b k l =
        let same : x ≡ y = left k in
        let rest : list_all (same_place x) xs ≡ list_all (same_place y) ys = over x y xs ys (all_alike (x ∷ xs) (y ∷ ys) h (same_place x)) same in
        λ i. if rest i then Some (same i) else None
    by false true k l =
        let same : y ≡ x = right l in
        let rest : list_all (same_place y) ys ≡ list_all (same_place x) xs = over y x ys xs (sym (all_alike (x ∷ xs) (y ∷ ys) h (same_place y))) same in
        sym (λ i. if rest i then Some (same i) else None)

pub summary_alike : (asked : Option WireBit) (xs ys : List SigBit) → HasItem xs → HasItem ys → AreAlike xs ys → summary_of asked xs ≡ summary_of asked ys
summary_alike asked [] ys h k alike = absurd h
summary_alike asked (x ∷ xs) [] h k alike = absurd k
summary_alike asked (x ∷ xs) (y ∷ ys) h k alike = λ i. record { only = one_alike x xs y ys alike i; asked = alike (is_asked asked) i }

-- ---- what sources come to together

pub some_append : (xs ys : List SigBit) → HasItem xs → HasItem (xs ++ ys)
some_append [] ys h = absurd h
some_append (x ∷ xs) ys h = tt

module _ (asked : Option WireBit) (f : SigBit → Summary) (g : SigBit → List SigBit) (h : (s : SigBit) → f s ≡ summary_of asked (g s)) (some : (s : SigBit) → HasItem (g s)) where
  over_is : (sources xs : List SigBit) (value : Summary) → HasItem xs → value ≡ summary_of asked xs → joined_over f value sources ≡ summary_of asked (xs ++ flat_map g sources)
  over_is [] xs value k e = e ∙ ap (summary_of asked) (sym (append-nil xs))
  over_is (s ∷ sources) xs value k e =
      over_is sources (xs ++ g s) (joined value (f s)) (some_append xs (g s) k) ((λ i. joined (e i) (h s i)) ∙ sym (summary_append asked xs (g s) k (some s)))
      ∙ ap (summary_of asked) (append_assoc xs (g s) (flat_map g sources))

  pub together_is : (sources : List SigBit) → HasItem sources → sources_summary f sources ≡ summary_of asked (flat_map g sources)
  together_is [] k = absurd k
  together_is (s ∷ sources) k = over_is sources (g s) (f s) (some s) (h s)
