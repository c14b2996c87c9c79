-- How often items stand in lists, and what that says of items that stand there once.
use Rattle.std.proofs.Common.{◌≡◌, ◌≤◌, ℕ, ◌+◌, Bool, true, false, cond, List, [], ◌∷◌, ◌++◌, inl, inr, refl, sym, ◌∙◌, ap, subst, arith}
use Rattle.net_model.specs.Lists.{Apart, Distinct, In}
use Rattle.net_model.specs.Settle.{IsSame}
use Rattle.net_model.proofs.Members.{apart_from}

-- how often something counts that is so or not
abbrev pub times : Bool → ℕ
times t = cond t 1 0

-- how often an item stands in a list
abbrev pub often : {A : Type 0} → (A → A → Bool) → A → List A → ℕ
often same x [] = 0
often same x (y ∷ ys) = times (same y x) + often same x ys

pub often_more : {A : Type 0} (same : A → A → Bool) (x : A) (ys zs : List A) → often same x (ys ++ zs) ≡ often same x ys + often same x zs
often_more same x [] zs = omega arith
often_more same x (y ∷ ys) zs = omega (arith, often_more same x ys zs)

module _ {A : Type 0} (same : A → A → Bool) (is : IsSame same) where
  one_of : (x y : A) → x ≡ y → times (same y x) ≡ 1
  one_of x y e = ap times ((is y x).1 (sym e))

  -- what stands in a list stands there at least once
  pub in_often : (x : A) (ys : List A) → In x ys → 1 ≤ often same x ys
  in_often x [] i = absurd i
  in_often x (y ∷ ys) (inl e) = omega (arith, one_of x y e)
  in_often x (y ∷ ys) (inr i) = omega (arith, in_often x ys i)

  pub often_in : (x : A) (ys : List A) → 1 ≤ often same x ys → In x ys
  often_in x [] h = absurd (omega arith)
  often_in x (y ∷ ys) h = by (often_in x ys) (same y x) refl h
    where
      by : (1 ≤ often same x ys → In x ys) → (t : Bool) → same y x ≡ t → 1 ≤ times t + often same x ys → In x (y ∷ ys)
      by later true e k = inl (sym ((is y x).0 e))
      by later false e k = inr (later (omega (arith, k)))

  absent : (x : A) (ys : List A) → Apart x ys → often same x ys ≡ 0
  absent x [] h = refl
  absent x (y ∷ ys) h = by (absent x ys h.1) (same y x) refl
    where
      by : often same x ys ≡ 0 → (t : Bool) → same y x ≡ t → times t + often same x ys ≡ 0
      by none true e = absurd (h.0 (sym ((is y x).0 e)))
      by none false e = omega (arith, none)

  -- where nothing stands twice, each item stands there at most once
  pub distinct_once : (ys : List A) → Distinct ys → (x : A) → often same x ys ≤ 1
  distinct_once [] h x = omega arith
  distinct_once (y ∷ ys) h x = by (distinct_once ys h.1 x) (same y x) refl
    where
      by : often same x ys ≤ 1 → (t : Bool) → same y x ≡ t → times t + often same x ys ≤ 1
      by once true e =
          let none : often same x ys ≡ 0 = ap (λ z. often same z ys) (sym ((is y x).0 e)) ∙ absent y ys h.0 in
          omega (arith, none)
      by once false e = omega (arith, once)

  pub once_distinct : (ys : List A) → ((x : A) → often same x ys ≤ 1) → Distinct ys
  once_distinct [] h = tt
  once_distinct (y ∷ ys) h = (
    apart_from y ys (λ z i e.
        let one : times (same y y) ≡ 1 = one_of y y refl in
        let more : 1 ≤ often same y ys = subst (λ x. 1 ≤ often same x ys) (sym e) (in_often z ys i) in
        omega (arith, h y, one, more)),
    once_distinct ys (λ x. omega (arith, h x)),
  )
