-- Elements of lists at their places.
use Rattle.std.proofs.Common.{◌≡◌, ℕ, zero, suc, List, [], ◌∷◌, inl, inr, sym, ap}
use Rattle.std.specs.Prelude.{Some, slice_get}
use Rattle.net_model.specs.Lists.{In}

-- an element at a place is one of the list, and each one has a place
pub in_at : {A : Type 0} (xs : List A) (at : ℕ) (x : A) → slice_get xs at ≡ Some x → In x xs
in_at [] at x e = absurd (cc)
in_at (y ∷ xs) zero x e = inl (sym (cc))
in_at (y ∷ xs) (suc at) x e = inr (in_at xs at x e)

pub place_of : {A : Type 0} (xs : List A) (x : A) → In x xs → (at : ℕ) × (slice_get xs at ≡ Some x)
place_of [] x i = absurd i
place_of (y ∷ xs) x (inl e) = (zero, ap (λ z. Some z) (sym e))
place_of (y ∷ xs) x (inr i) = let k = place_of xs x i in (suc k.0, k.1)

pub same_at : {A : Type 0} (xs : List A) (at : ℕ) (x y : A) → slice_get xs at ≡ Some x → slice_get xs at ≡ Some y → x ≡ y
same_at [] at x y e f = absurd (cc)
same_at (z ∷ xs) zero x y e f = cc
same_at (z ∷ xs) (suc at) x y e f = same_at xs at x y e f
