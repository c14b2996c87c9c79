-- Names that stay distinct while items are added.
use Rattle.std.proofs.Common.{◌≡◌, ℕ, zero, suc, ◌<◌, List, [], ◌∷◌, ◌++◌, length, append-nil, Some, None, Bool, true, false, refl, sym, ap, subst, ◌∙◌, arith, cond}
use Rattle.std.specs.Prelude.{◌||◌, slice_get, is_some}
use Rattle.std.specs.List.{AllByRecursion, IsDistinct}
use Rattle.std.specs.Str.{bytes_eq}
use Rattle.std.proofs.lemmas.Bool.{or_parts, or_from, lt-ltb, true≢false}
use Rattle.std.proofs.lemmas.List.Folds.{list_any-append}
use Rattle.rtl_sig.specs.Names.{has_name, number_of, next_number_of, AreDistinct}
use Rattle.rtl_sig.proofs.NamesLemmas.{slice_get-known}
use Rattle.rtl_write.proofs.Names.{differs_back, same_name, not_in_front}

pub slice_get_lt : {X : Type 0} (xs : List X) (k : ℕ) (x : X) → slice_get xs k ≡ Some x → k < length xs
slice_get_lt [] k x e = absurd cc
slice_get_lt (y ∷ ys) zero x e = omega arith
slice_get_lt (y ∷ ys) (suc k) x e = omega (arith, slice_get_lt ys k x e)

-- a name without a number is not there
pub not_numbered : (names : List (List ℕ)) (name : List ℕ) → is_some (number_of names name) ≡ false → has_name names name ≡ false
not_numbered names name e = by (has_name names name) refl
  where
    by : (b : Bool) → has_name names name ≡ b → has_name names name ≡ false
    by false f = f
    by true f =
        let lt = slice_get_lt names (next_number_of names name) name (slice_get-known name names f) in
        let found : is_some (number_of names name) ≡ true = ap (λ (b : Bool). is_some (cond b (Some (next_number_of names name)) None)) (lt-ltb (next_number_of names name) (length names) lt) in
        absurd (true≢false (sym found ∙ e))

pub not_in_both : (xs ys : List (List ℕ)) (name : List ℕ) → has_name xs name ≡ false → has_name ys name ≡ false → has_name (xs ++ ys) name ≡ false
not_in_both xs ys name f g = list_any-append (bytes_eq name) xs ys ∙ or_from (has_name xs name) (has_name ys name) f g

-- a name that was added is there
pub added_there : (names : List (List ℕ)) (name : List ℕ) → has_name (names ++ name ∷ []) name ≡ true
added_there [] name = ap (λ (b : Bool). b || false) (same_name name)
added_there (x ∷ xs) name = ap (λ (b : Bool). bytes_eq name x || b) (added_there xs name) ∙ or_true (bytes_eq name x)
  where
    or_true : (b : Bool) → (b || true) ≡ true
    or_true true = refl
    or_true false = refl

-- a name that is not there is not the one that was added
pub not_added : (names : List (List ℕ)) (name other : List ℕ) → has_name (names ++ name ∷ []) other ≡ false → (has_name names other ≡ false) × (has_name (name ∷ []) other ≡ false)
not_added names name other h = not_in_front names (name ∷ []) other h

-- no other name is equal
apart : (name : List ℕ) (ys : List (List ℕ)) → has_name ys name ≡ false → AllByRecursion (λ y. bytes_eq name y ≡ false) ys
apart name [] h = tt
apart name (y ∷ ys) h =
    let parts = or_parts (bytes_eq name y) (has_name ys name) h in
    (parts.0, apart name ys parts.1)

between_all : (P : List ℕ → Type 0) (xs : List (List ℕ)) (y : List ℕ) (ys : List (List ℕ)) → P y → AllByRecursion P (xs ++ ys) → AllByRecursion P (xs ++ y ∷ ys)
between_all P [] y ys h all = (h, all)
between_all P (x ∷ xs) y ys h all = (all.0, between_all P xs y ys h all.1)

-- a new name stands anywhere among distinct ones
pub distinct_between : (xs ys : List (List ℕ)) (name : List ℕ) → AreDistinct (xs ++ ys) → has_name (xs ++ ys) name ≡ false → AreDistinct (xs ++ name ∷ ys)
unfolding IsDistinct
distinct_between [] ys name d h = (apart name ys h, d)
distinct_between (x ∷ xs) ys name d h =
    let parts = or_parts (bytes_eq name x) (has_name (xs ++ ys) name) h in
    (between_all (λ y. bytes_eq x y ≡ false) xs name ys (differs_back name x parts.0) d.0, distinct_between xs ys name d.1 parts.1)

pub distinct_push : (xs : List (List ℕ)) (name : List ℕ) → AreDistinct xs → has_name xs name ≡ false → AreDistinct (xs ++ name ∷ [])
distinct_push xs name d h =
    let plain : xs ++ [] ≡ xs = append-nil xs in
    distinct_between xs [] name (subst AreDistinct (sym plain) d) (ap (λ (l : List (List ℕ)). has_name l name) plain ∙ h)
