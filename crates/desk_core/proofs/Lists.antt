-- Items of lists, by their places.
use Rattle.std.proofs.Common.{◌≡◌, ◌≢◌, ◌⊎◌, inl, inr, ℕ, zero, suc, ◌<◌, List, [], ◌∷◌, true, length, set, slice_get, Option, Some, None, refl, sym, ap, arith}
use Rattle.std.specs.List.{list_all}
use Rattle.std.specs.Option.{is_some}

pub same_number : (a b : ℕ) → (a ≡ b) ⊎ (a ≢ b)
same_number zero zero = inl refl
same_number zero (suc b) = inr (λ e. omega (arith, e))
same_number (suc a) zero = inr (λ e. omega (arith, e))
same_number (suc a) (suc b) = by (same_number a b)
  where
    by : (a ≡ b) ⊎ (a ≢ b) → (suc a ≡ suc b) ⊎ (suc a ≢ suc b)
    by (inl e) = inl (ap suc e)
    by (inr ne) = inr (λ e. ne (omega (arith, e)))

module _ {A : Type 0} where
  pub get_set_same : (xs : List A) (at : ℕ) (x : A) → at < length xs → slice_get (set xs at x) at ≡ Some x
  get_set_same [] at x lt = absurd (omega arith)
  get_set_same (y ∷ xs) zero x lt = refl
  get_set_same (y ∷ xs) (suc at) x lt = get_set_same xs at x (omega arith)

  pub get_set_other : (xs : List A) (at k : ℕ) (x : A) → k ≢ at → slice_get (set xs at x) k ≡ slice_get xs k
  get_set_other [] at k x ne = refl
  get_set_other (y ∷ xs) zero zero x ne = absurd (ne refl)
  get_set_other (y ∷ xs) zero (suc k) x ne = refl
  get_set_other (y ∷ xs) (suc at) zero x ne = refl
  get_set_other (y ∷ xs) (suc at) (suc k) x ne = get_set_other xs at k x (λ e. ne (ap suc e))

  pub set_got : (xs : List A) (at : ℕ) (x : A) → slice_get xs at ≡ Some x → set xs at x ≡ xs
  set_got [] at x h = refl
  set_got (y ∷ xs) zero x h = let e : y ≡ x = cc in ap (λ (z : A). z ∷ xs) (sym e)
  set_got (y ∷ xs) (suc at) x h = ap (λ (l : List A). y ∷ l) (set_got xs at x h)

  -- each place of some holds an item
  pub all_there : (xs : List (Option A)) → ((k : ℕ) → k < length xs → (x : A) × (slice_get xs k ≡ Some (Some x))) → list_all is_some xs ≡ true
  all_there [] h = refl
  all_there (None ∷ xs) h = let first = h zero (omega arith) in absurd (let no : None ≡ Some first.0 = (let e = first.1 in cc) in cc)
  all_there (Some x ∷ xs) h = all_there xs (λ k lt. h (suc k) (omega arith))
