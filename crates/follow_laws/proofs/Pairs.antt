-- Lists in pairs.
use Rattle.std.proofs.Common.{◌≡◌, List, [], ◌∷◌, ◌++◌, inl, inr, refl, sym, subst}
use Rattle.rtl_ir.specs.Flat.Driver.{Driver, Driven}
use Rattle.net_model.specs.Lists.{In}
use Rattle.net_model.specs.Refine.{places_of}
use Rattle.follow_laws.specs.Alike.{InPairs, SameBit}

module _ {A : Type 0} where
  pub pairs_self : (R : A → A → Type 0) → ((x : A) → R x x) → (xs : List A) → InPairs R xs xs
  pairs_self R h [] = tt
  pairs_self R h (x ∷ xs) = (h x, pairs_self R h xs)

  pub pairs_append : (R : A → A → Type 0) (xs ys zs ws : List A) → InPairs R xs ys → InPairs R zs ws → InPairs R (xs ++ zs) (ys ++ ws)
  pairs_append R [] [] zs ws h k = k
  pairs_append R (x ∷ xs) (y ∷ ys) zs ws h k = (h.0, pairs_append R xs ys zs ws h.1 k)
  pairs_append R [] (y ∷ ys) zs ws h k = absurd h
  pairs_append R (x ∷ xs) [] zs ws h k = absurd h

  pub pairs_map : (R S : A → A → Type 0) → ((x y : A) → R x y → S x y) → (xs ys : List A) → InPairs R xs ys → InPairs S xs ys
  pairs_map R S f [] [] h = tt
  pairs_map R S f (x ∷ xs) (y ∷ ys) h = (f x y h.0, pairs_map R S f xs ys h.1)
  pairs_map R S f [] (y ∷ ys) h = absurd h
  pairs_map R S f (x ∷ xs) [] h = absurd h

  pub pairs_turned : (R S : A → A → Type 0) → ((x y : A) → R x y → S y x) → (xs ys : List A) → InPairs R xs ys → InPairs S ys xs
  pairs_turned R S f [] [] h = tt
  pairs_turned R S f (x ∷ xs) (y ∷ ys) h = (f x y h.0, pairs_turned R S f xs ys h.1)
  pairs_turned R S f [] (y ∷ ys) h = absurd h
  pairs_turned R S f (x ∷ xs) [] h = absurd h

  -- each of the first list has its partner
  pub partner : (R : A → A → Type 0) (xs ys : List A) → InPairs R xs ys → (x : A) → In x xs → (y : A) × In y ys × R x y
  partner R [] ys h x i = absurd i
  partner R (z ∷ xs) (y ∷ ys) h x (inl e) = (y, inl refl, subst (λ k. R k y) (sym e) h.0)
  partner R (z ∷ xs) (y ∷ ys) h x (inr i) = let k = partner R xs ys h.1 x i in (k.0, inr k.1, k.2)
  partner R (z ∷ xs) [] h x i = absurd h

-- rows of the same bits have the same places
pub same_places : (Q : Driver → Driver → Type 0) (ds es : List Driven) → InPairs (SameBit Q) ds es → places_of ds ≡ places_of es
same_places Q [] [] h = refl
same_places Q (d ∷ ds) (e ∷ es) h =
    let here = h.0.0 in
    let later = same_places Q ds es h.1 in
    λ i. here i ∷ later i
same_places Q [] (e ∷ es) h = absurd h
same_places Q (d ∷ ds) [] h = absurd h
