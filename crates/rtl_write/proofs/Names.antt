-- Names that no item above has, and the places of names.
use Rattle.std.proofs.Common.{◌≡◌, ℕ, zero, suc, ◌+◌, ◌<◌, List, [], ◌∷◌, ◌++◌, length, map, Some, None, Bool, true, false, refl, sym, ap, subst, ◌∙◌, arith, cond, not}
use Rattle.std.specs.Prelude.{nat_lt, slice_get, is_some, if◌then◌else◌}
use Rattle.std.specs.List.{position_or_len, AllByRecursion, IsDistinct}
use Rattle.std.specs.Str.{bytes_eq}
use Rattle.std.proofs.lemmas.Bool.{true≢false, or_parts, le-ltb, lt-ltb}
use Rattle.std.proofs.lemmas.Slice.Eq.{bytes_eq-Decides}
use Rattle.std.proofs.lemmas.List.{length-map, map-append}
use Rattle.std.proofs.lemmas.List.Folds.{list_any-append}
use Rattle.rtl_sig.specs.Names.{has_name, number_of, next_number_of, with_name, AreDistinct}
use Rattle.rtl_sig.proofs.NamesLemmas.{next_number_of-new}

pub differs_back : (x y : List ℕ) → bytes_eq x y ≡ false → bytes_eq y x ≡ false
differs_back x y h = by (bytes_eq y x) refl
  where
    by : (b : Bool) → bytes_eq y x ≡ b → bytes_eq y x ≡ false
    by true e = absurd (true≢false (sym ((bytes_eq-Decides x y).1 (sym ((bytes_eq-Decides y x).0 e))) ∙ h))
    by false e = e

pub same_name : (x : List ℕ) → bytes_eq x x ≡ true
same_name x = (bytes_eq-Decides x x).1 refl

at_middle : {A : Type 0} (P : A → Type 0) (xs : List A) (y : A) (ys : List A) → AllByRecursion P (xs ++ y ∷ ys) → P y
at_middle P [] y ys h = h.0
at_middle P (x ∷ xs) y ys h = at_middle P xs y ys h.1

-- a name is not among those before it
pub not_before : (xs : List (List ℕ)) (y : List ℕ) (ys : List (List ℕ)) → AreDistinct (xs ++ y ∷ ys) → has_name xs y ≡ false
unfolding IsDistinct
not_before [] y ys h = refl
not_before (x ∷ xs) y ys h = rw (differs_back x y (at_middle (λ z. bytes_eq x z ≡ false) xs y ys h.0)) (not_before xs y ys h.1)

pub not_in_front : (xs ys : List (List ℕ)) (name : List ℕ) → has_name (xs ++ ys) name ≡ false → (has_name xs name ≡ false) × (has_name ys name ≡ false)
not_in_front xs ys name h = or_parts (has_name xs name) (has_name ys name) (sym (list_any-append (bytes_eq name) xs ys) ∙ h)

-- a name that is not among these
pub record IsNew (names : List (List ℕ)) (name : List ℕ) : Type 0 where
  pub none : is_some (number_of names name) ≡ false
  pub next : next_number_of names name ≡ length names
  pub added : with_name names name ≡ names ++ name ∷ []

pub is_new : (names : List (List ℕ)) (name : List ℕ) → has_name names name ≡ false → IsNew names name
is_new names name h =
    let next = next_number_of-new name names h in
    let past : nat_lt (next_number_of names name) (length names) ≡ false = ap (λ (n : ℕ). nat_lt n (length names)) next ∙ le-ltb (length names) (length names) (omega arith) in
    record {
      none = ap (λ (b : Bool). is_some (cond b (Some (next_number_of names name)) None)) past;
      next = next;
      added = ap (λ (b : Bool). if b then names else names ++ name ∷ []) h;
    }

-- the place of a name among the names of items, each of which has its own
module _ {X : Type 0} (name : X → List ℕ) where
  first_at : (xs : List X) (k : ℕ) (x : X) → AreDistinct (map name xs) → slice_get xs k ≡ Some x → (position_or_len (bytes_eq (name x)) (map name xs) ≡ k) × (k < length xs)
  unfolding IsDistinct
  first_at [] k x d e = absurd cc
  first_at (y ∷ ys) zero x d e =
      let same : y ≡ x = cc in
      let found : not (bytes_eq (name x) (name y)) ≡ false = ap (λ (z : X). not (bytes_eq (name x) (name z))) same ∙ ap not (same_name (name x)) in
      (ap (λ (b : Bool). cond b (1 + position_or_len (bytes_eq (name x)) (map name ys)) 0) found, omega arith)
  first_at (y ∷ ys) (suc k) x d e =
      let more = first_at ys k x d.1 e in
      let other : not (bytes_eq (name x) (name y)) ≡ true = ap not (differs_back (name y) (name x) (among ys k d.0 e)) in
      (ap (λ (b : Bool). cond b (1 + position_or_len (bytes_eq (name x)) (map name ys)) 0) other ∙ omega (arith, more.0), omega (arith, more.1))
    where
      among : (zs : List X) (j : ℕ) → AllByRecursion (λ z. bytes_eq (name y) z ≡ false) (map name zs) → slice_get zs j ≡ Some x → bytes_eq (name y) (name x) ≡ false
      among [] j all f = absurd cc
      among (z ∷ zs) zero all f =
          let same : z ≡ x = cc in
          subst (λ (w : X). bytes_eq (name y) (name w) ≡ false) same all.0
      among (z ∷ zs) (suc j) all f = among zs j all.1 f

  pub number_at : (xs : List X) (k : ℕ) (x : X) → AreDistinct (map name xs) → slice_get xs k ≡ Some x → number_of (map name xs) (name x) ≡ Some k
  number_at xs k x d e =
      let at = first_at xs k x d e in
      let within : nat_lt k (length (map name xs)) ≡ true = lt-ltb k (length (map name xs)) (omega (arith, at.1, length-map xs name)) in
      ap (λ (n : ℕ). cond (nat_lt n (length (map name xs))) (Some n) None) at.0 ∙ ap (λ (b : Bool). cond b (Some k) None) within

  -- the name of an item in the middle is new among those before it
  pub new_among : (front : List X) (x : X) (back all : List X) → front ++ x ∷ back ≡ all → AreDistinct (map name all) → IsNew (map name front) (name x)
  new_among front x back all e d =
      is_new (map name front) (name x) (not_before (map name front) (name x) (map name back) (subst AreDistinct (ap (map name) (sym e) ∙ map-append name front (x ∷ back)) d))
