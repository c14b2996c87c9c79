-- numbers by their digits, and products of numbers that are cut off at a bound
use Rattle.std.proofs.Common.{◌≡◌, ℕ, ◌+◌, ◌*◌, ◌^◌, ◌≤◌, ◌<◌, min, Bool, true, false, ltb, zero, suc, List, [], ◌∷◌, drop, refl, ◌∙◌, add-one, arith}
use Rattle.std.proofs.Math.Nat.{le-mul_of_pos_right, mul_comm}
use Rattle.std.proofs.Math.Pow.{pow_mono}
use Rattle.std.proofs.lemmas.Bool.{ltb-true, ltb-false}
use Rattle.rtl_bits.specs.declared.bit.Bit.{Bit}
use Rattle.rtl_bits.specs.Numbers.{number_of}
use Rattle.cell_types.specs.Number.{digit_at}

-- a number from its lowest digit and the rest
pub number_of_drop : (bits : List Bit) (at : ℕ) → number_of (drop at bits) ≡ digit_at bits at + 2 * number_of (drop (at + 1) bits)
number_of_drop [] zero = refl
number_of_drop [] (suc at) = rw add-one refl
number_of_drop (bit ∷ bits) zero = refl
number_of_drop (bit ∷ bits) (suc at) = rw add-one (rw add-one at (number_of_drop bits at))

-- one factor passes the bound, so that the product does, where it is not 0
min_product_over : (a b m : ℕ) → 0 < m → m ≤ a → min (min a m * min b m) m ≡ min (a * b) m
min_product_over a zero m h over =
    let none : min 0 m ≡ 0 = omega arith in
    rw none (omega arith)
min_product_over a (suc b) m h over =
    let cut : min a m ≡ m = omega arith in
    let some : 0 < min (suc b) m = omega arith in
    rw cut (omega (arith, le-mul_of_pos_right m some, le-mul_of_pos_right {m = suc b} a (omega arith)))

min_product_within : (a b m : ℕ) → a ≤ m → b ≤ m → min (min a m * min b m) m ≡ min (a * b) m
min_product_within a b m a_in b_in =
    let a_is : min a m ≡ a = omega arith in
    let b_is : min b m ≡ b = omega arith in
    rw (a_is, b_is) refl

pub min_product : (a b m : ℕ) → 0 < m → min (min a m * min b m) m ≡ min (a * b) m
min_product a b m h = by_cases (ltb a m) (ltb b m) refl refl
  where
    by_cases : (p q : Bool) → ltb a m ≡ p → ltb b m ≡ q → min (min a m * min b m) m ≡ min (a * b) m
    by_cases true true p q = min_product_within a b m (omega (arith, ltb-true a m p)) (omega (arith, ltb-true b m q))
    by_cases true false p q =
        rw (mul_comm (min a m) (min b m), mul_comm a b) (min_product_over b a m h (omega (arith, ltb-false b m q)))
    by_cases false q p r = min_product_over a b m h (omega (arith, ltb-false a m p))

-- a product of two numbers that were cut off, cut off twice more
pub product_is : (a b x y top m r : ℕ) → 0 < m → m ≤ top → x ≡ min a m → y ≡ min b m → r ≡ min (min (x * y) top) m → r ≡ min (a * b) m
product_is a b x y top m r h low x_is y_is r_is =
    let r_of : r ≡ min (x * y) m = omega arith in
    r_of ∙ rw (x_is, y_is) (min_product a b m h)

-- so many words of some bits are at least as many as the words are
words_many : (w s : ℕ) → 0 < w → 2 ^ s ≤ w * 2 ^ s
words_many w s some = rw (mul_comm w (2 ^ s)) (le-mul_of_pos_right (2 ^ s) some)

-- few bits have so few values
pub few_bits : (w s : ℕ) → 0 < w → w * 2 ^ s ≤ 4096 → s ≤ 12
few_bits w s some low = by (ltb 12 s) refl
  where
    by : (t : Bool) → ltb 12 s ≡ t → s ≤ 12
    by true e =
        let more : 2 ^ 13 ≤ 2 ^ s = pow_mono {i = 13} {j = s} (omega (arith, ltb-true 12 s e)) in
        let all : 2 ^ s ≤ w * 2 ^ s = words_many w s some in
        absurd (omega arith)
    by false e = ltb-false 12 s e

-- words for many bits are many
pub parts_many : (w s : ℕ) → 0 < w → 64 ≤ s → min (w * 2 ^ s) (2 ^ 64) ≡ 2 ^ 64
parts_many w s some far =
    let more : 2 ^ 64 ≤ 2 ^ s = pow_mono {i = 64} {j = s} far in
    let all : 2 ^ s ≤ w * 2 ^ s = words_many w s some in
    omega arith
