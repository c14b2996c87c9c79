-- What stands at a place of a list, and what is found in it, is in the list.
use Rattle.std.proofs.Common.{◌≡◌, ℕ, zero, suc, Bool, true, false, List, [], ◌∷◌, Some, if◌then◌else◌, inl, inr, ◌∙◌, ap, refl, cond, sym}
use Rattle.std.specs.Prelude.{find, slice_get, filter}
use Rattle.net_model.specs.Lists.{In}

-- what stands at a place of a list is in it
pub in_place : {A : Type 0} (xs : List A) (at : ℕ) (x : A) → slice_get xs at ≡ Some x → In x xs
in_place [] at x e = absurd (cc)
in_place (y ∷ xs) zero x e = let same : x ≡ y = cc in inl same
in_place (y ∷ xs) (suc at) x e = inr (in_place xs at x e)

-- what is found is there, and passes the test
pub found_there : {A : Type 0} (test : A → Bool) (xs : List A) (r : A) → find test xs ≡ Some r → In r xs × (test r ≡ true)
found_there test [] r e = absurd (cc)
found_there test (y ∷ xs) r e = by (test y) refl e (found_there test xs r)
  where
    by : (t : Bool) → test y ≡ t → (if t then Some y else find test xs) ≡ Some r → (find test xs ≡ Some r → In r xs × (test r ≡ true)) → In r (y ∷ xs) × (test r ≡ true)
    by true f g later = let same : r ≡ y = cc in (inl same, ap test same ∙ f)
    by false f g later = let k = later g in (inr k.0, k.1)

-- what passes a test is of the list, and passes it
pub filtered_in : {A : Type 0} (test : A → Bool) (xs : List A) (x : A) → In x (filter test xs) → In x xs × (test x ≡ true)
filtered_in test [] x i = absurd i
filtered_in test (y ∷ xs) x i = by (λ j. filtered_in test xs x j) (test y) refl i
  where
    by : (In x (filter test xs) → In x xs × (test x ≡ true)) → (t : Bool) → test y ≡ t → In x (cond t (y ∷ filter test xs) (filter test xs)) → In x (y ∷ xs) × (test x ≡ true)
    by later true f (inl g) = (inl g, ap test g ∙ f)
    by later true f (inr j) = let k = later j in (inr k.0, k.1)
    by later false f j = let k = later j in (inr k.0, k.1)

-- and the other way round
pub in_filtered : {A : Type 0} (test : A → Bool) (xs : List A) (x : A) → In x xs → test x ≡ true → In x (filter test xs)
in_filtered test [] x i e = absurd i
in_filtered test (y ∷ xs) x i e = by (λ j. in_filtered test xs x j e) (test y) refl i
  where
    by : (In x xs → In x (filter test xs)) → (t : Bool) → test y ≡ t → In x (y ∷ xs) → In x (cond t (y ∷ filter test xs) (filter test xs))
    by later true f (inl g) = inl g
    by later true f (inr j) = inr (later j)
    by later false f (inl g) = let no : true ≡ false = sym e ∙ ap test g ∙ f in absurd (cc)
    by later false f (inr j) = later j
