-- The ports among wires, and wires by their names.
use Rattle.std.proofs.Common.{◌≡◌, ℕ, zero, suc, ◌<◌, List, [], ◌∷◌, length, Some, refl, sym, ◌∙◌, ap, arith}
use Rattle.std.specs.Prelude.{map, slice_get}
use Rattle.net_model.specs.Lists.{Distinct}
use Rattle.net_model.proofs.Members.{In-map, apart_at}
use Rattle.pass_laws.proofs.Finding.{in_place}

pub some_at : {A : Type 0} (xs : List A) (k : ℕ) → k < length xs → (x : A) × (slice_get xs k ≡ Some x)
some_at [] k h = absurd (omega arith)
some_at (y ∷ xs) zero h = (y, refl)
some_at (y ∷ xs) (suc k) h = some_at xs k (omega arith)

-- where no two have one name, a name has one place
pub same_place : {A B : Type 0} (f : A → B) (xs : List A) → Distinct (map f xs) → (i j : ℕ) (x y : A) → slice_get xs i ≡ Some x → slice_get xs j ≡ Some y → f x ≡ f y → i ≡ j
same_place f [] h i j x y e g n = absurd (cc)
same_place f (z ∷ xs) h zero zero x y e g n = refl
same_place f (z ∷ xs) h zero (suc j) x y e g n =
    let same : z ≡ x = cc in
    absurd (apart_at (f z) (map f xs) h.0 (f y) (In-map f y xs (in_place xs j y g)) (ap f same ∙ n))
same_place f (z ∷ xs) h (suc i) zero x y e g n =
    let same : z ≡ y = cc in
    absurd (apart_at (f z) (map f xs) h.0 (f x) (In-map f x xs (in_place xs i x e)) (ap f same ∙ sym n))
same_place f (z ∷ xs) h (suc i) (suc j) x y e g n = ap suc (same_place f xs h.1 i j x y e g n)
