-- The places that are left out of a list, one after another.
use Rattle.std.proofs.Common.{◌≡◌, ◌<◌, ◌+◌, ℕ, Bool, true, false, cond, List, [], ◌∷◌, ◌++◌, length, get_or, drop, ◌∙◌, sym, ap, append_assoc, add-one}
use Rattle.std.specs.Prelude.{filter}
use Rattle.std.proofs.Math.Seq.{drop-cons}

-- the next and those behind it
here : {A : Type 0} (xs : List A) (i : ℕ) (d : A) → i < length xs → drop i xs ≡ get_or xs i d ∷ drop (i + 1) xs
here xs i d h = drop-cons xs i d h ∙ (λ j. get_or xs i d ∷ drop (sym (add-one i) j) xs)

-- what is left at the next
left_at : {A : Type 0} (p : A → Bool) (xs : List A) (i : ℕ) (d : A) (b : Bool) → i < length xs → p (get_or xs i d) ≡ b
    → filter p (drop i xs) ≡ cond b (get_or xs i d ∷ filter p (drop (i + 1) xs)) (filter p (drop (i + 1) xs))
left_at p xs i d b h is = ap (filter p) (here xs i d h) ∙ ap (λ t. cond t (get_or xs i d ∷ filter p (drop (i + 1) xs)) (filter p (drop (i + 1) xs))) is

-- the next is kept
pub stays_on : {A : Type 0} (p : A → Bool) (xs all : List A) (i : ℕ) (d : A) (others : List A) → i < length xs → p (get_or xs i d) ≡ true
    → others ++ filter p (drop i xs) ≡ all → (others ++ get_or xs i d ∷ []) ++ filter p (drop (i + 1) xs) ≡ all
stays_on p xs all i d others h is inv =
    append_assoc others (get_or xs i d ∷ []) (filter p (drop (i + 1) xs))
    ∙ sym (ap (λ l. others ++ l) (left_at p xs i d true h is))
    ∙ inv

-- the next goes
pub goes_on : {A : Type 0} (p : A → Bool) (xs all : List A) (i : ℕ) (d : A) (others : List A) → i < length xs → p (get_or xs i d) ≡ false
    → others ++ filter p (drop i xs) ≡ all → others ++ filter p (drop (i + 1) xs) ≡ all
goes_on p xs all i d others h is inv = sym (ap (λ l. others ++ l) (left_at p xs i d false h is)) ∙ inv
