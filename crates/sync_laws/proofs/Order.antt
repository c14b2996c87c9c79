-- Ports in rising number: further ones with greater numbers stay behind.
use Rattle.std.proofs.Common.{◌≡◌, ◌≤◌, ℕ, ◌+◌, Bool, true, false, if◌then◌else◌, List, [], ◌∷◌, ◌++◌, inl, inr, refl, ◌∙◌, ap, arith}
use Rattle.std.specs.Prelude.{max, nat_le}
use Rattle.rtl_ir.specs.Flat.Access.{Access, in_access_order, next_number, place_access}
use Rattle.net_model.specs.Within.{Each}

-- ports with numbers one after another from one on
abbrev pub AreFrom : ℕ → List Access → Type 0
AreFrom n [] = Unit {0}
AreFrom n (a ∷ accesses) = (a.number ≡ n) × AreFrom (n + 1) accesses

place_first : (a : Access) (n : ℕ) (ys : List Access) → a.number ≤ n → AreFrom n ys → place_access a ys ≡ a ∷ ys
place_first a n [] low h = refl
place_first a n (y ∷ ys) low h =
    let less : nat_le a.number y.number ≡ true = grind (arith, low, h.0) in
    ap (λ t. if t then a ∷ y ∷ ys else y ∷ place_access a ys) less

place_behind : (a : Access) (n : ℕ) (xs ys : List Access) → a.number ≤ n → AreFrom n ys → place_access a (xs ++ ys) ≡ place_access a xs ++ ys
place_behind a n [] ys low h = place_first a n ys low h
place_behind a n (x ∷ xs) ys low h = by (nat_le a.number x.number) (place_behind a n xs ys low h)
  where
    by : (t : Bool) → place_access a (xs ++ ys) ≡ place_access a xs ++ ys → (if t then a ∷ x ∷ (xs ++ ys) else x ∷ place_access a (xs ++ ys)) ≡ (if t then a ∷ x ∷ xs else x ∷ place_access a xs) ++ ys
    by true e = refl
    by false e = ap (λ z. x ∷ z) e

order_from : (n : ℕ) (ys : List Access) → AreFrom n ys → in_access_order ys ≡ ys
order_from n [] h = refl
order_from n (y ∷ ys) h =
    ap (place_access y) (order_from (n + 1) ys h.1) ∙ place_first y (n + 1) ys (omega (arith, h.0)) h.1

-- ports, and behind them those of greater numbers
pub order_both : (n : ℕ) (xs ys : List Access) → Each (λ (a : Access). a.number ≤ n) xs → AreFrom n ys → in_access_order (xs ++ ys) ≡ in_access_order xs ++ ys
order_both n [] ys low h = order_from n ys h
order_both n (x ∷ xs) ys low h =
    ap (place_access x) (order_both n xs ys (λ a i. low a (inr i)) h)
    ∙ place_behind x n (in_access_order xs) ys (low x (inl refl)) h

next_placed : (a : Access) (xs : List Access) → next_number (place_access a xs) ≡ max (a.number + 1) (next_number xs)
next_placed a [] = refl
next_placed a (x ∷ xs) = by (nat_le a.number x.number) (next_placed a xs)
  where
    by : (t : Bool) → next_number (place_access a xs) ≡ max (a.number + 1) (next_number xs) → next_number (if t then a ∷ x ∷ xs else x ∷ place_access a xs) ≡ max (a.number + 1) (max (x.number + 1) (next_number xs))
    by true e = refl
    by false e = omega (arith, e)

-- the order does not change the number behind them
pub next_ordered : (xs : List Access) → next_number (in_access_order xs) ≡ next_number xs
next_ordered [] = refl
next_ordered (x ∷ xs) = next_placed x (in_access_order xs) ∙ ap (max (x.number + 1)) (next_ordered xs)

-- each has a number before that one
pub before_next : (xs : List Access) → Each (λ (a : Access). a.number ≤ next_number xs) xs
before_next [] a i = absurd i
before_next (x ∷ xs) a (inl e) = let same : a.number ≡ x.number = ap (λ (z : Access). z.number) e in omega (arith, same)
before_next (x ∷ xs) a (inr i) = omega (arith, before_next xs a i)
