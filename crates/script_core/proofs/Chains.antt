-- Chains of names: one that leads from a name to another may be cut until no name stands twice in it, and is then no longer than
-- there are names.
use Rattle.std.proofs.Common.{◌≡◌, ℕ, suc, ◌≤◌, Bool, true, false, List, [], ◌∷◌, length, inl, inr, ⊎_elim, ◌⊎◌, refl, sym, ◌∙◌, ap, subst, arith}
use Rattle.std.specs.Str.{bytes_eq}
use Rattle.std.proofs.lemmas.Bool.{true≢false}
use Rattle.std.proofs.lemmas.Slice.Eq.{bytes_eq-Decides}
use Rattle.net_model.specs.Lists.{Distinct, In}
use Rattle.net_model.proofs.Members.{apart_at, apart_from}

-- two names are one, or not
pub same_or_not : (x y : List ℕ) → (x ≡ y) ⊎ (x ≡ y → ⊥)
same_or_not x y = by (bytes_eq x y) refl
  where
    by : (t : Bool) → bytes_eq x y ≡ t → (x ≡ y) ⊎ (x ≡ y → ⊥)
    by true q = inl ((bytes_eq-Decides x y).0 q)
    by false q = inr (λ e. true≢false (sym ((bytes_eq-Decides x y).1 e) ∙ q))

-- distinct names among some names are no more than these
without : (x : List ℕ) (ys : List (List ℕ)) → In x ys → (zs : List (List ℕ)) × (length ys ≡ suc (length zs)) × ((y : List ℕ) → In y ys → (y ≡ x → ⊥) → In y zs)
without x [] i = absurd i
without x (y ∷ ys) (inl e) = (ys, refl, λ z j h. ⊎_elim (λ f. absurd (h (f ∙ sym e))) (λ k. k) j)
without x (y ∷ ys) (inr i) =
    let k = without x ys i in
    (y ∷ k.0, ap suc k.1, λ z j h. ⊎_elim (λ f. inl f) (λ l. inr (k.2 z l h)) j)

pub few : (xs ys : List (List ℕ)) → Distinct xs → ((x : List ℕ) → In x xs → In x ys) → length xs ≤ length ys
few [] ys u h = omega arith
few (x ∷ xs) ys u h =
    let k = without x ys (h x (inl refl)) in
    let rest : length xs ≤ length k.0 = few xs k.0 u.1 (λ y i. k.2 y (h y (inr i)) (λ e. apart_at x xs u.0 y i (sym e))) in
    omega (arith, rest, k.1)

-- a name is one of these, or none
one_of : (x : List ℕ) (ys : List (List ℕ)) → In x ys ⊎ (In x ys → ⊥)
one_of x [] = inr (λ i. i)
one_of x (y ∷ ys) =
    ⊎_elim (λ e. inl (inl e)) (λ n. ⊎_elim (λ i. inl (inr i)) (λ k. inr (λ i. ⊎_elim n k i)) (one_of x ys)) (same_or_not x y)

module _ (E : List ℕ → List ℕ → Type 0) where
  -- these names lead from the first name to the last one, one after another
  abbrev pub Goes : List ℕ → List (List ℕ) → List ℕ → Type 0
  Goes a [] b = a ≡ b
  Goes a (c ∷ cs) b = E a c × Goes c cs b

  -- what is left of a chain behind a name that stands in it
  behind : (ys : List (List ℕ)) (c b a : List ℕ) → Goes c ys b → Distinct (c ∷ ys) → In a (c ∷ ys) → (zs : List (List ℕ)) × Goes a zs b × Distinct (a ∷ zs)
  behind ys c b a g u (inl e) =
      (ys, subst (λ z. Goes z ys b) (sym e) g, subst (λ z. Distinct (z ∷ ys)) (sym e) u)
  behind [] c b a g u (inr i) = absurd i
  behind (d ∷ ds) c b a g u (inr i) = behind ds d b a g.1 u.1 i

  -- a chain in which no name stands twice
  cut : (xs : List (List ℕ)) (a b : List ℕ) → Goes a xs b → (ys : List (List ℕ)) × Goes a ys b × Distinct (a ∷ ys)
  cut [] a b g = ([], g, (tt, tt))
  cut (c ∷ cs) a b g =
      let k = cut cs c b g.1 in
      ⊎_elim
      (λ i. behind k.0 c b a k.1 k.2 i)
      (λ n. (c ∷ k.0, (g.0, k.1), (apart_from a (c ∷ k.0) (λ y j e. n (subst (λ z. In z (c ∷ k.0)) (sym e) j)), k.2)))
      (one_of a (c ∷ k.0))

  module _ (all : List (List ℕ)) (inside : (a b : List ℕ) → E a b → In b all) where
    names_in : (ys : List (List ℕ)) (a b : List ℕ) → Goes a ys b → (y : List ℕ) → In y ys → In y all
    names_in [] a b g y i = absurd i
    names_in (c ∷ cs) a b g y (inl e) = subst (λ z. In z all) (sym e) (inside a c g.0)
    names_in (c ∷ cs) a b g y (inr i) = names_in cs c b g.1 y i

    -- a chain that is no longer than there are names, its first one among them
    pub shorten : (xs : List (List ℕ)) (a b : List ℕ) → In a all → Goes a xs b → (ys : List (List ℕ)) × Goes a ys b × (suc (length ys) ≤ length all)
    shorten xs a b i g =
        let k = cut xs a b g in
        (k.0, k.1, few (a ∷ k.0) all k.2 (λ y j. ⊎_elim (λ e. subst (λ z. In z all) (sym e) i) (λ l. names_in k.0 a b k.1 y l) j))
