-- Numbers of up to nine digits.
use Rattle.std.proofs.Common.{◌≡◌, ℕ, zero, suc, ◌+◌, ◌*◌, ◌-◌, ◌<◌, ◌≤◌, max, true, List, [], ◌∷◌, length, map, drop, get_or, ap, arith}
use Rattle.std.proofs.Math.Seq.{drop-cons}
use Rattle.std.proofs.lemmas.Bool.{and_parts, leb-true}
use Rattle.std.specs.Prelude.{◌&&◌, ◌==◌, nat_le, not}
use Rattle.std.specs.List.{fold, list_all}
use Rattle.rtl_ir.specs.Build.{digits_number, is_digit, is_made_number, made_number}

-- a number with so many nines behind it
abbrev nines : ℕ → ℕ → ℕ
nines a zero = a
nines a (suc n) = nines (a * 10 + 9) n

nines_grow : (a n m : ℕ) → n ≤ m → nines a n ≤ nines a m
nines_grow a zero zero h = omega arith
nines_grow a zero (suc m) h = omega (arith, nines_grow (a * 10 + 9) zero m (omega arith))
nines_grow a (suc n) zero h = absurd (omega arith)
nines_grow a (suc n) (suc m) h = nines_grow (a * 10 + 9) n m (omega arith)

digits_nines : (a b : ℕ) (ds : List ℕ) → list_all is_digit ds ≡ true → a ≤ b → digits_number a ds ≤ nines b (length ds)
digits_nines a b [] e h = h
digits_nines a b (d ∷ ds) e h =
    let p : (is_digit d ≡ true) × (list_all is_digit ds ≡ true) = and_parts (is_digit d) (list_all is_digit ds) e in
    let q : (nat_le 48 d ≡ true) × (nat_le d 57 ≡ true) = and_parts (nat_le 48 d) (nat_le d 57) p.0 in
    let top : d ≤ 57 = leb-true d 57 q.1 in
    digits_nines (a * 10 + (d - 48)) (b * 10 + 9) ds p.1 (omega arith)

-- up to nine digits stand for at most 999,999,999
pub digits_small : (ds : List ℕ) → list_all is_digit ds ≡ true → length ds ≤ 9 → digits_number 0 ds ≤ 999999999
digits_small ds e h = omega (arith, digits_nines 0 0 ds e (omega arith), nines_grow 0 (length ds) 9 h)

-- digits behind a number make it greater
pub digits_grow : (a : ℕ) (ds : List ℕ) → a ≤ digits_number a ds
digits_grow a [] = omega arith
digits_grow a (d ∷ ds) = omega (arith, digits_grow (a * 10 + (d - 48)) ds)

-- what is a number of a fresh name is digits, and few of them
pub record AreDigits (ds : List ℕ) : Type 0 where
  pub digits : list_all is_digit ds ≡ true
  pub few : length ds ≤ 9

pub made_digits : (ds : List ℕ) → is_made_number ds ≡ true → AreDigits ds
made_digits [] e = absurd (cc)
made_digits (c ∷ ds) e =
    let p : (list_all is_digit (c ∷ ds) ≡ true) × ((not (c == 48) && nat_le (length (c ∷ ds)) 9) ≡ true) = and_parts _ _ e in
    record { digits = p.0; few = leb-true (length (c ∷ ds)) 9 (and_parts (not (c == 48)) _ p.1).1 }

-- the digits up to the next one stand for no more than all of them
pub digits_so_far : (ds : List ℕ) (i n d : ℕ) → i < length ds → list_all is_digit ds ≡ true → length ds ≤ 9
    → digits_number n (drop i ds) ≡ digits_number 0 ds → n * 10 + (get_or ds i d - 48) ≤ 999999999
digits_so_far ds i n d h all few e =
    let next : digits_number n (drop i ds) ≡ digits_number (n * 10 + (get_or ds i d - 48)) (drop (suc i) ds) = ap (digits_number n) (drop-cons ds i d h) in
    omega (arith, next, e, digits_grow (n * 10 + (get_or ds i d - 48)) (drop (suc i) ds), digits_small ds all few)

-- the greatest number of these names
abbrev pub greatest_of : List (List ℕ) → ℕ
greatest_of names = fold max 0 (map made_number names)
