-- What stands in lists that are put together, mapped or told apart.
use Rattle.std.proofs.Common.{◌≡◌, List, [], ◌∷◌, ◌++◌, ◌⊎◌, inl, inr, ⊎_elim, refl, sym, ◌∙◌, ap, subst}
use Rattle.std.specs.Prelude.{map}
use Rattle.net_model.specs.Lists.{In, Apart, Distinct}

pub In-left : {A : Type 0} (x : A) (xs ys : List A) → In x xs → In x (xs ++ ys)
In-left x [] ys i = absurd i
In-left x (z ∷ zs) ys (inl e) = inl e
In-left x (z ∷ zs) ys (inr i) = inr (In-left x zs ys i)

pub In-right : {A : Type 0} (x : A) (xs ys : List A) → In x ys → In x (xs ++ ys)
In-right x [] ys i = i
In-right x (z ∷ zs) ys i = inr (In-right x zs ys i)

pub In-cases : {A : Type 0} (x : A) (xs ys : List A) → In x (xs ++ ys) → In x xs ⊎ In x ys
In-cases x [] ys i = inr i
In-cases x (z ∷ zs) ys (inl e) = inl (inl e)
In-cases x (z ∷ zs) ys (inr i) = ⊎_elim (λ l. inl (inr l)) (λ r. inr r) (In-cases x zs ys i)

pub In-map : {A B : Type 0} (f : A → B) (x : A) (xs : List A) → In x xs → In (f x) (map f xs)
In-map f x [] i = i
In-map f x (y ∷ ys) (inl e) = inl (ap f e)
In-map f x (y ∷ ys) (inr i) = inr (In-map f x ys i)

-- what stands in a mapped list comes from the list
pub In-mapped : {A B : Type 0} (f : A → B) (y : B) (xs : List A) → In y (map f xs) → (x : A) × In x xs × (y ≡ f x)
In-mapped f y [] i = absurd i
In-mapped f y (x ∷ xs) (inl e) = (x, inl refl, e)
In-mapped f y (x ∷ xs) (inr i) = let k = In-mapped f y xs i in (k.0, inr k.1, k.2)

pub map-append : {A B : Type 0} (f : A → B) (xs ys : List A) → map f (xs ++ ys) ≡ map f xs ++ map f ys
map-append f [] ys = refl
map-append f (x ∷ xs) ys = ap (λ z. f x ∷ z) (map-append f xs ys)

pub map-map : {A B C : Type 0} (f : A → B) (g : B → C) (xs : List A) → map g (map f xs) ≡ map (λ x. g (f x)) xs
map-map f g [] = refl
map-map f g (x ∷ xs) = ap (λ z. g (f x) ∷ z) (map-map f g xs)

-- what stands in a list is not what is apart from it
pub apart_at : {A : Type 0} (x : A) (ys : List A) → Apart x ys → (y : A) → In y ys → x ≡ y → ⊥
apart_at x [] h y i e = absurd i
apart_at x (z ∷ ys) h y (inl f) e = h.0 (e ∙ f)
apart_at x (z ∷ ys) h y (inr i) e = apart_at x ys h.1 y i e

pub apart_from : {A : Type 0} (x : A) (ys : List A) → ((y : A) → In y ys → x ≡ y → ⊥) → Apart x ys
apart_from x [] h = tt
apart_from x (y ∷ ys) h = (h y (inl refl), apart_from x ys (λ z i. h z (inr i)))

pub Distinct-append : {A : Type 0} (xs ys : List A) → Distinct xs → Distinct ys → ((x : A) → In x xs → In x ys → ⊥) → Distinct (xs ++ ys)
Distinct-append [] ys u v h = v
Distinct-append (x ∷ xs) ys u v h = (
  apart_from x (xs ++ ys) (λ y i e. ⊎_elim (λ l. apart_at x xs u.0 y l e) (λ r. h x (inl refl) (subst (λ z. In z ys) (sym e) r)) (In-cases y xs ys i)),
  Distinct-append xs ys u.1 v (λ z i j. h z (inr i) j),
)
