-- Where a name stands.
use Rattle.std.proofs.Common.{◌≡◌, ℕ, Bool, true, false, ◌||◌, List, [], ◌∷◌, ◌++◌, Some, None, length, nat_lt, slice_get, refl, sym, ◌∙◌, ap, subst, arith, true≢false}
use Rattle.std.proofs.lemmas.List.{append-nil, append_assoc}
use Rattle.std.proofs.lemmas.List.Folds.{list_any-append}
use borrow.Author.Tests.{ltb-true}
use Rattle.std.proofs.lemmas.Grind.{common_steps}
use Rattle.std.proofs.lemmas.Slice.Eq.{bytes_eq-Decides}
use Rattle.std.specs.List.{list_any, IsDistinct, AllByRecursion}
use Rattle.std.specs.Str.{bytes_eq}
use Rattle.rtl_sig.specs.Names.{number_of, next_number_of, with_name}

or-false : (b : Bool) → (b || false) ≡ b
or-false true = refl
or-false false = refl

-- a known name stands at its number
pub slice_get-known : (name : List ℕ) (names : List (List ℕ)) → list_any (bytes_eq name) names ≡ true → slice_get names (next_number_of names name) ≡ Some name
slice_get-known name [] h = cc
slice_get-known name (x ∷ xs) h = by (bytes_eq name x) refl (slice_get-known name xs)
  where
    by : (b : Bool) → bytes_eq name x ≡ b → (list_any (bytes_eq name) xs ≡ true → slice_get xs (next_number_of xs name) ≡ Some name)
        → slice_get (x ∷ xs) (next_number_of (x ∷ xs) name) ≡ Some name
    by true e ih = rw e (ap Some (sym ((bytes_eq-Decides name x).0 e)))
    by false e ih = let known : list_any (bytes_eq name) xs ≡ true = rw e at h in let at = ih known in grind (arith, common_steps)

-- the next number is behind all others
pub next_number_of-new : (name : List ℕ) (names : List (List ℕ)) → list_any (bytes_eq name) names ≡ false → next_number_of names name ≡ length names
next_number_of-new name [] h = refl
next_number_of-new name (x ∷ xs) h = by (bytes_eq name x) refl (next_number_of-new name xs)
  where
    by : (b : Bool) → bytes_eq name x ≡ b → (list_any (bytes_eq name) xs ≡ false → next_number_of xs name ≡ length xs) → next_number_of (x ∷ xs) name ≡ length (x ∷ xs)
    by true e ih = absurd (true≢false (rw e at h))
    by false e ih = rw e (let new : list_any (bytes_eq name) xs ≡ false = rw e at h in let n = ih new in omega arith)

-- a name that has a number stands there
pub slice_get-number_of : (name : List ℕ) (names : List (List ℕ)) (index : ℕ) → Some index ≡ number_of names name → slice_get names index ≡ Some name
slice_get-number_of name names index h = by (list_any (bytes_eq name) names) refl (nat_lt (next_number_of names name) (length names)) refl
  where
    by : (b : Bool) → list_any (bytes_eq name) names ≡ b → (t : Bool) → nat_lt (next_number_of names name) (length names) ≡ t → slice_get names index ≡ Some name
    by b e false f = absurd (let k : Some index ≡ None = rw f at h in cc)
    by false e true f = absurd (let n = next_number_of-new name names e in let k = ltb-true _ _ f in omega arith)
    by true e true f =
        let k : Some index ≡ Some (next_number_of names name) = rw f at h in
        let n : index ≡ next_number_of names name = cc in
        rw n (slice_get-known name names e)

-- a name is known once another one is seen where it was known before or is that one
pub list_any-with_name : (name : List ℕ) (names : List (List ℕ)) (new : List ℕ) → list_any (bytes_eq name) (with_name names new) ≡ (list_any (bytes_eq name) names || bytes_eq name new)
list_any-with_name name names new = by (list_any (bytes_eq new) names) refl (bytes_eq name new) refl
  where
    by : (b : Bool) → list_any (bytes_eq new) names ≡ b → (t : Bool) → bytes_eq name new ≡ t → list_any (bytes_eq name) (with_name names new) ≡ (list_any (bytes_eq name) names || bytes_eq name new)
    by false e t f = rw e (list_any-append (bytes_eq name) names (new ∷ []) ∙ ap (λ b. list_any (bytes_eq name) names || b) (or-false (bytes_eq name new)))
    by true e false f = rw (e, f) (sym (or-false (list_any (bytes_eq name) names)))
    by true e true f =
        let same : name ≡ new = (bytes_eq-Decides name new).0 f in
        let known : list_any (bytes_eq name) names ≡ true = subst (λ n. list_any (bytes_eq n) names ≡ true) (sym same) e in
        rw (e, known) refl

-- the names once all of these are seen
abbrev pub with_all : List (List ℕ) → List (List ℕ) → List (List ℕ)
with_all names [] = names
with_all names (x ∷ xs) = with_all (with_name names x) xs

differs_back : (x y : List ℕ) → bytes_eq x y ≡ false → bytes_eq y x ≡ false
differs_back x y h = by (bytes_eq y x) refl
  where
    by : (b : Bool) → bytes_eq y x ≡ b → bytes_eq y x ≡ false
    by true e = absurd (true≢false (sym ((bytes_eq-Decides x y).1 (sym ((bytes_eq-Decides y x).0 e))) ∙ h))
    by false e = e

at_middle : {A : Type 0} (P : A → Type 0) (xs : List A) (y : A) (ys : List A) → AllByRecursion P (xs ++ y ∷ ys) → P y
at_middle P [] y ys h = h.0
at_middle P (x ∷ xs) y ys h = at_middle P xs y ys h.1

is_new : (xs : List (List ℕ)) (y : List ℕ) (ys : List (List ℕ)) → IsDistinct bytes_eq (xs ++ y ∷ ys) → list_any (bytes_eq y) xs ≡ false
unfolding IsDistinct
is_new [] y ys h = refl
is_new (x ∷ xs) y ys h = rw (differs_back x y (at_middle (λ z. bytes_eq x z ≡ false) xs y ys h.0)) (is_new xs y ys h.1)

-- distinct names that are seen in turn stand one after another
pub with_all-distinct : (xs ys : List (List ℕ)) → IsDistinct bytes_eq (xs ++ ys) → with_all xs ys ≡ xs ++ ys
with_all-distinct xs [] h = sym (append-nil xs)
with_all-distinct xs (y ∷ ys) h =
    rw (is_new xs y ys h) (with_all-distinct (xs ++ y ∷ []) ys (rw append_assoc h) ∙ append_assoc xs (y ∷ []) ys)
