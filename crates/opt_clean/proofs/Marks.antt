-- Lists of which some items are marked.
use Rattle.std.proofs.Common.{◌≡◌, Bool, true, false, cond, if◌then◌else◌, List, [], ◌∷◌, ◌++◌, ◌⊎◌, inl, inr, ⊎_elim, refl, sym, ◌∙◌, ap}
use Rattle.std.specs.Prelude.{filter, map, flat_map}
use Rattle.net_model.specs.Lists.{In, Distinct}
use Rattle.net_model.proofs.Members.{apart_from, apart_at}
use Rattle.opt_clean.specs.Kept.{marked}

-- those of a list that are not marked
abbrev pub others : {A : Type 0} → List Bool → List A → List A
others [] xs = xs
others (t ∷ ts) [] = []
others (t ∷ ts) (x ∷ xs) = if t then others ts xs else x ∷ others ts xs

module _ {A : Type 0} where
  pub marked_in : (ts : List Bool) (xs : List A) (x : A) → In x (marked ts xs) → In x xs
  marked_in [] xs x i = absurd i
  marked_in (t ∷ ts) [] x i = absurd i
  marked_in (true ∷ ts) (y ∷ xs) x (inl e) = inl e
  marked_in (true ∷ ts) (y ∷ xs) x (inr i) = inr (marked_in ts xs x i)
  marked_in (false ∷ ts) (y ∷ xs) x i = inr (marked_in ts xs x i)

  pub others_in : (ts : List Bool) (xs : List A) (x : A) → In x (others ts xs) → In x xs
  others_in [] xs x i = i
  others_in (t ∷ ts) [] x i = absurd i
  others_in (false ∷ ts) (y ∷ xs) x (inl e) = inl e
  others_in (false ∷ ts) (y ∷ xs) x (inr i) = inr (others_in ts xs x i)
  others_in (true ∷ ts) (y ∷ xs) x i = inr (others_in ts xs x i)

  pub mark_cases : (ts : List Bool) (xs : List A) (x : A) → In x xs → In x (marked ts xs) ⊎ In x (others ts xs)
  mark_cases [] xs x i = inr i
  mark_cases (t ∷ ts) [] x i = absurd i
  mark_cases (true ∷ ts) (y ∷ xs) x (inl e) = inl (inl e)
  mark_cases (true ∷ ts) (y ∷ xs) x (inr i) = ⊎_elim (λ a. inl (inr a)) (λ a. inr a) (mark_cases ts xs x i)
  mark_cases (false ∷ ts) (y ∷ xs) x (inl e) = inr (inl e)
  mark_cases (false ∷ ts) (y ∷ xs) x (inr i) = ⊎_elim (λ a. inl a) (λ a. inr (inr a)) (mark_cases ts xs x i)

  -- what the items of a list give, of which those that are not marked give nothing
  pub marked_give : {B : Type 0} (f : A → List B) (ts : List Bool) (xs : List A) → ((x : A) → In x (others ts xs) → f x ≡ []) → flat_map f xs ≡ flat_map f (marked ts xs)
  marked_give f [] [] h = refl
  marked_give f [] (x ∷ xs) h =
      ap (λ z. z ++ flat_map f xs) (h x (inl refl)) ∙ marked_give f [] xs (λ y i. h y (inr i))
  marked_give f (t ∷ ts) [] h = refl
  marked_give f (true ∷ ts) (x ∷ xs) h = ap (λ z. f x ++ z) (marked_give f ts xs h)
  marked_give f (false ∷ ts) (x ∷ xs) h =
      ap (λ z. z ++ flat_map f xs) (h x (inl refl)) ∙ marked_give f ts xs (λ y i. h y (inr i))

  -- those that pass a test, where each of the others fails it
  pub filter_marked : (test : A → Bool) (ts : List Bool) (xs : List A) → ((x : A) → In x (others ts xs) → test x ≡ false) → filter test (marked ts xs) ≡ filter test xs
  filter_marked test [] [] h = refl
  filter_marked test [] (x ∷ xs) h =
      filter_marked test [] xs (λ y i. h y (inr i)) ∙ ap (λ t. cond t (x ∷ filter test xs) (filter test xs)) (sym (h x (inl refl)))
  filter_marked test (t ∷ ts) [] h = refl
  filter_marked test (true ∷ ts) (x ∷ xs) h = ap (λ z. cond (test x) (x ∷ z) z) (filter_marked test ts xs h)
  filter_marked test (false ∷ ts) (x ∷ xs) h =
      filter_marked test ts xs (λ y i. h y (inr i)) ∙ ap (λ t. cond t (x ∷ filter test xs) (filter test xs)) (sym (h x (inl refl)))

  pub marked_map : {B : Type 0} (f : A → B) (ts : List Bool) (xs : List A) → map f (marked ts xs) ≡ marked ts (map f xs)
  marked_map f [] xs = refl
  marked_map f (t ∷ ts) [] = refl
  marked_map f (true ∷ ts) (x ∷ xs) = ap (λ z. f x ∷ z) (marked_map f ts xs)
  marked_map f (false ∷ ts) (x ∷ xs) = marked_map f ts xs

  -- where nothing stands twice, nothing that is marked does
  pub marked_distinct : (ts : List Bool) (xs : List A) → Distinct xs → Distinct (marked ts xs)
  marked_distinct [] xs h = tt
  marked_distinct (t ∷ ts) [] h = tt
  marked_distinct (true ∷ ts) (x ∷ xs) h =
      (apart_from x (marked ts xs) (λ y i. apart_at x xs h.0 y (marked_in ts xs y i)), marked_distinct ts xs h.1)
  marked_distinct (false ∷ ts) (x ∷ xs) h = marked_distinct ts xs h.1
