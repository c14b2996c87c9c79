-- Lists in another order: what stands in them, that nothing stands twice, and parts that are exchanged.
use Rattle.std.proofs.Common.{◌≡◌, Bool, true, false, ◌||◌, List, [], ◌∷◌, ◌++◌, inl, inr, refl, sym, ◌∙◌, ap, subst, append_assoc}
use Rattle.std.specs.Prelude.{IsPermutation}
use Rattle.std.specs.List.{AllByRecursion, IsDistinct, list_any}
use Rattle.std.proofs.lemmas.List.Sorted.{IsPermutation-refl, IsPermutation-trans, IsPermutation-append, IsPermutation-append_left, IsPermutation-append_right, IsPermutation-append_comm, list_any-IsPermutation}
use Rattle.std.proofs.lemmas.Map.Keys.{IsDistinct-IsPermutation}
use Rattle.net_model.specs.Lists.{Apart, Distinct, In}
use Rattle.net_model.specs.Settle.{IsSame}

module _ {A : Type 0} (same : A → A → Bool) (is : IsSame same) where
  unlike : (x y : A) → (x ≡ y → ⊥) → same x y ≡ false
  unlike x y differ = by (same x y) refl
    where
      by : (t : Bool) → same x y ≡ t → t ≡ false
      by true e = absurd (differ ((is x y).0 e))
      by false e = refl

  flips : (x y : A) → same x y ≡ same y x
  flips x y = by (same x y) (same y x) refl refl
    where
      by : (t u : Bool) → same x y ≡ t → same y x ≡ u → t ≡ u
      by true true e f = refl
      by false false e f = refl
      by true false e f = sym ((is y x).1 (sym ((is x y).0 e))) ∙ f
      by false true e f = sym e ∙ (is x y).1 (sym ((is y x).0 f))

  tests : (x : A) (ys : List A) → Apart x ys → AllByRecursion (λ y. same x y ≡ false) ys
  tests x [] h = tt
  tests x (y ∷ ys) h = (unlike x y h.0, tests x ys h.1)

  differs : (x : A) (ys : List A) → AllByRecursion (λ y. same x y ≡ false) ys → Apart x ys
  differs x [] h = tt
  differs x (y ∷ ys) h = (λ e. let bad : true ≡ false = sym ((is x y).1 e) ∙ h.0 in absurd (cc), differs x ys h.1)

  to_tests : (xs : List A) → Distinct xs → IsDistinct same xs
  unfolding IsDistinct
  to_tests [] h = tt
  to_tests (x ∷ xs) h = (tests x xs h.0, to_tests xs h.1)

  from_tests : (xs : List A) → IsDistinct same xs → Distinct xs
  unfolding IsDistinct
  from_tests [] h = tt
  from_tests (x ∷ xs) h = (differs x xs h.0, from_tests xs h.1)

  pub Distinct-permutation : (xs ys : List A) → IsPermutation xs ys → Distinct xs → Distinct ys
  Distinct-permutation xs ys p h = from_tests ys (IsDistinct-IsPermutation same flips xs ys p (to_tests xs h))

  found : (x : A) (xs : List A) → In x xs → list_any (same x) xs ≡ true
  found x [] i = absurd i
  found x (y ∷ ys) (inl e) = ap (λ t. t || list_any (same x) ys) ((is x y).1 e)
  found x (y ∷ ys) (inr i) = by (same x y) (found x ys i)
    where
      by : (t : Bool) → list_any (same x) ys ≡ true → (t || list_any (same x) ys) ≡ true
      by true e = refl
      by false e = e

  finds : (x : A) (xs : List A) → list_any (same x) xs ≡ true → In x xs
  finds x [] e = absurd (cc)
  finds x (y ∷ ys) e = by (finds x ys) (same x y) refl e
    where
      by : (list_any (same x) ys ≡ true → In x ys) → (t : Bool) → same x y ≡ t → (t || list_any (same x) ys) ≡ true → In x (y ∷ ys)
      by later true f g = inl ((is x y).0 f)
      by later false f g = inr (later g)

  pub In-permutation : (x : A) (xs ys : List A) → IsPermutation xs ys → In x xs → In x ys
  In-permutation x xs ys p i = finds x ys (sym (list_any-IsPermutation (same x) xs ys p) ∙ found x xs i)

module _ {A : Type 0} where
  pub to_permutation : (xs ys : List A) → xs ≡ ys → IsPermutation xs ys
  to_permutation xs ys e = subst (IsPermutation xs) e (IsPermutation-refl xs)

  -- the two lists in the middle of four change places
  pub exchanged : (us vs ws xs : List A) → IsPermutation ((us ++ vs) ++ (ws ++ xs)) ((us ++ ws) ++ (vs ++ xs))
  exchanged us vs ws xs =
      let left : (us ++ vs) ++ (ws ++ xs) ≡ us ++ ((vs ++ ws) ++ xs) = append_assoc us vs (ws ++ xs) ∙ ap (λ z. us ++ z) (sym (append_assoc vs ws xs)) in
      let right : us ++ ((ws ++ vs) ++ xs) ≡ (us ++ ws) ++ (vs ++ xs) = ap (λ z. us ++ z) (append_assoc ws vs xs) ∙ sym (append_assoc us ws (vs ++ xs)) in
      IsPermutation-trans _ _ _ (to_permutation _ _ left)
      (IsPermutation-trans _ _ _ (IsPermutation-append_right us _ _ (IsPermutation-append_left xs _ _ (IsPermutation-append_comm vs ws))) (to_permutation _ _ right))

  -- where two pairs of lists are each in another order, so are they together
  pub joined : (us vs ws xs ps qs rs ss : List A) → IsPermutation (us ++ vs) (ps ++ qs) → IsPermutation (ws ++ xs) (rs ++ ss) → IsPermutation ((us ++ ws) ++ (vs ++ xs)) ((ps ++ rs) ++ (qs ++ ss))
  joined us vs ws xs ps qs rs ss h k =
      IsPermutation-trans _ _ _ (exchanged us ws vs xs) (IsPermutation-trans _ _ _ (IsPermutation-append _ _ _ _ h k) (exchanged ps qs rs ss))
