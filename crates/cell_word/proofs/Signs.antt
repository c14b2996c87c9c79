-- Sums, products and quotients by sign and size.
use Rattle.std.proofs.Common.{◌≡◌, refl, sym, ◌∙◌, ap, subst, ℕ, zero, suc, ◌+◌, ◌-◌, ◌*◌, ◌/◌, ◌%◌, ◌^◌, ◌<◌, ◌≤◌, Bool, true, false, not, arith, ℤ, pos, neg_ℤ, ◌+ℤ◌, ◌-ℤ◌, ◌*ℤ◌}
use mathlib.Core.Bool.{beq}
use Rattle.std.proofs.lemmas.Int.{ints}
use Rattle.std.proofs.lemmas.Nat.{div-add-mod', mod_below}
use Rattle.std.proofs.lemmas.Bool.Decides.{nat_tests}
use Rattle.std.proofs.Math.Nat.{le-mul_of_pos_right, zero-div, zero-mod}
use Rattle.std.specs.Prelude.{int_lt, int_div, int_rem, nat_lt, unsigned_abs, ◌==◌, ◌&&◌, if◌then◌else◌}
use Rattle.cell_word.specs.Arithmetic.{same_sign, rounds_up, floor_div, floor_rem}
use Rattle.rtl_bits.specs.Numbers.{bits_of}
use Rattle.cell_word.specs.Integers.{integer_bits}
use Rattle.cell_word.specs.declared.integer.Integer.{Integer}
use Rattle.cell_word.specs.Sizes.{signed_of, integer_value, IsProper, StandsFor}
use Rattle.cell_word.proofs.Residues.{bits_of_wrapped, bits_of_negative}

-- the sum of two integers of one sign
pub sum_of_one_sign : (n : Bool) (p q : ℕ) → signed_of n p +ℤ signed_of n q ≡ signed_of n (p + q)
sum_of_one_sign true p q = omega (arith, ints)
sum_of_one_sign false p q = refl

-- the same of two signs that are found equal, where the size may wrap
pub wrapped_sum : (m n : Bool) (p q : ℕ) → beq m n ≡ true → StandsFor (record { negative = m; size = (p + q) % 2 ^ 128 }) (signed_of m p +ℤ signed_of n q)
wrapped_sum true true p q e = record { size = p + q; residue = refl; value = sym (sum_of_one_sign true p q) }
wrapped_sum false false p q e = record { size = p + q; residue = refl; value = sym (sum_of_one_sign false p q) }
wrapped_sum true false p q e = absurd (cc)
wrapped_sum false true p q e = absurd (cc)

-- the sum of two integers of different signs has the sign of the greater
pub sum_of_less : (m n : Bool) (p q : ℕ) → (m ≡ n → ⊥) → p < q → signed_of n (q - p) ≡ signed_of m p +ℤ signed_of n q
sum_of_less true true p q d h = absurd (d refl)
sum_of_less true false p q d h = omega (arith, ints)
sum_of_less false true p q d h = omega (arith, ints)
sum_of_less false false p q d h = absurd (d refl)

pub sum_of_more : (m n : Bool) (p q : ℕ) → (m ≡ n → ⊥) → q ≤ p → signed_of m (p - q) ≡ signed_of m p +ℤ signed_of n q
sum_of_more true true p q d h = absurd (d refl)
sum_of_more true false p q d h = omega (arith, ints)
sum_of_more false true p q d h = omega (arith, ints)
sum_of_more false false p q d h = absurd (d refl)

-- the product is negative where the signs differ
pub product_of : (m n : Bool) (p q : ℕ) → signed_of (not (beq m n)) (p * q) ≡ signed_of m p *ℤ signed_of n q
product_of true true zero q = omega (arith, ints)
product_of true true (suc p) zero = omega (arith, ints)
product_of true true (suc p) (suc q) = refl
product_of true false zero q = omega (arith, ints)
product_of true false (suc p) q = refl
product_of false true p zero = omega (arith, ints)
product_of false true p (suc q) = refl
product_of false false p q = refl

-- the number that is left up to 2 to the 128 has the bits of the negative integer
pub low_of_negative : (i : Integer) (number : ℕ) → i.negative ≡ true → number ≡ (0 + (2 ^ 128 - i.size)) % 2 ^ 128 → (z : ℤ) (width : ℕ) → StandsFor i z → width ≤ 128 → bits_of number width ≡ integer_bits z width
low_of_negative i number n e z width s h =
    let v : neg_ℤ (pos s.size) ≡ z = subst (λ b. signed_of b s.size ≡ z) n s.value in
    bits_of_negative number s.size width (omega (arith, s.residue)) h ∙ ap (λ y. integer_bits y width) v

-- the size itself has the bits of the other integers
pub low_of_positive : (i : Integer) → i.negative ≡ false → (z : ℤ) (width : ℕ) → StandsFor i z → width ≤ 128 → bits_of i.size width ≡ integer_bits z width
low_of_positive i n z width s h =
    let v : pos s.size ≡ z = subst (λ b. signed_of b s.size ≡ z) n s.value in
    bits_of_wrapped i.size s.size 128 width (omega (arith, s.residue)) h ∙ ap (λ y. integer_bits y width) v

-- a size below 2 to the 128 stands for its integer alone
pub stands : (n : Bool) (p : ℕ) (z : ℤ) → p < 2 ^ 128 → signed_of n p ≡ z → StandsFor (record { negative = n; size = p }) z
stands n p z h e = record { size = p; residue = omega arith; value = e }

-- an integer is below 0 where its sign says so
pub below_zero : (n : Bool) (p : ℕ) → (n ≡ true → 0 < p) → int_lt (signed_of n p) (pos 0) ≡ n
below_zero true zero h = absurd (omega (arith, h refl))
below_zero true (suc p) h = refl
below_zero false p h = grind (arith, ints)

-- the order of integers by sign and size
pub less_below : (p q : ℕ) → 0 < p → int_lt (signed_of true p) (signed_of false q) ≡ true
less_below zero q h = absurd (omega arith)
less_below (suc p) q h = refl

pub less_above : (p q : ℕ) → 0 < q → int_lt (signed_of false p) (signed_of true q) ≡ false
less_above p zero h = absurd (omega arith)
less_above p (suc q) h = refl

pub less_positive : (p q : ℕ) → int_lt (signed_of false p) (signed_of false q) ≡ nat_lt p q
less_positive p q = refl

pub less_negative : (p q : ℕ) → 0 < p → 0 < q → int_lt (signed_of true p) (signed_of true q) ≡ nat_lt q p
less_negative zero q h k = absurd (omega arith)
less_negative (suc p) zero h k = absurd (omega arith)
less_negative (suc p) (suc q) h k = grind (arith, nat_tests)

-- the quotient is negative where the signs differ, the remainder where the dividend is
pub quotient_of_signs : (m n : Bool) (p q : ℕ) → 0 < q → signed_of (not (beq m n)) (p / q) ≡ int_div (signed_of m p) (signed_of n q)
quotient_of_signs m n p zero h = absurd (omega arith)
quotient_of_signs true true zero (suc q) h =
    let e : 0 / suc q ≡ 0 = zero-div (suc q) in ap pos e ∙ sym (ap (λ r. neg_ℤ (pos r)) e)
quotient_of_signs true true (suc p) (suc q) h = refl
quotient_of_signs true false zero (suc q) h =
    let e : 0 / suc q ≡ 0 = zero-div (suc q) in ap (λ r. neg_ℤ (pos r)) e ∙ sym (ap pos e)
quotient_of_signs true false (suc p) (suc q) h = refl
quotient_of_signs false true p (suc q) h = refl
quotient_of_signs false false p (suc q) h = refl

pub remainder_of_signs : (m n : Bool) (p q : ℕ) → 0 < q → signed_of m (p % q) ≡ int_rem (signed_of m p) (signed_of n q)
remainder_of_signs m n p zero h = absurd (omega arith)
remainder_of_signs true true zero (suc q) h =
    let e : 0 % suc q ≡ 0 = zero-mod (suc q) in ap (λ r. neg_ℤ (pos r)) e ∙ sym (ap pos e)
remainder_of_signs true true (suc p) (suc q) h = refl
remainder_of_signs true false zero (suc q) h =
    let e : 0 % suc q ≡ 0 = zero-mod (suc q) in ap (λ r. neg_ℤ (pos r)) e ∙ sym (ap pos e)
remainder_of_signs true false (suc p) (suc q) h = refl
remainder_of_signs false true p (suc q) h = refl
remainder_of_signs false false p (suc q) h = refl

-- a quotient with a rest can be raised by one
pub quotient_fits : (p q : ℕ) → 0 < p % q → p < 2 ^ 128 → 0 < q → p / q + 1 < 2 ^ 128
quotient_fits p q r h k = omega (arith, div-add-mod' p q, le-mul_of_pos_right (p / q) k)

pub size_of_signed : (n : Bool) (p : ℕ) → unsigned_abs (signed_of n p) ≡ p
size_of_signed true zero = refl
size_of_signed true (suc p) = refl
size_of_signed false p = refl

same_is_equal : (m n : Bool) → (if m then n else not n) ≡ beq m n
same_is_equal true true = refl
same_is_equal true false = refl
same_is_equal false true = refl
same_is_equal false false = refl

-- whether a quotient of signs is rounded up
pub rounds_up_by_signs : (a b : Integer) → 0 < b.size → IsProper a → IsProper b → rounds_up (integer_value a) (integer_value b) ≡ not (a.size % b.size == 0) && not (beq a.negative b.negative)
rounds_up_by_signs a b h j k =
    let r : unsigned_abs (int_rem (integer_value a) (integer_value b)) ≡ a.size % b.size =
    ap unsigned_abs (sym (remainder_of_signs a.negative b.negative a.size b.size h)) ∙ size_of_signed a.negative (a.size % b.size) in
    let s : same_sign (integer_value a) (integer_value b) ≡ beq a.negative b.negative =
    ap (λ z. if z then int_lt (integer_value b) (pos 0) else not (int_lt (integer_value b) (pos 0))) (below_zero a.negative a.size j)
    ∙ ap (λ z. if a.negative then z else not z) (below_zero b.negative b.size k)
    ∙ same_is_equal a.negative b.negative in
    ap (λ n. not (n == 0) && not (same_sign (integer_value a) (integer_value b))) r
    ∙ ap (λ z. not (a.size % b.size == 0) && not z) s

rest_of : (r : ℕ) → (r == 0) ≡ false → 0 < r
rest_of r e = grind (arith, nat_tests)

lowered : (p : ℕ) → neg_ℤ (pos (p + 1)) ≡ neg_ℤ (pos p) -ℤ pos 1
lowered p = omega (arith, ints)

turned : (m n : Bool) (r q : ℕ) → beq m n ≡ false → r < q → signed_of n (q - r) ≡ signed_of m r +ℤ signed_of n q
turned true true r q d h = absurd (cc)
turned true false r q d h = omega (arith, ints)
turned false true r q d h = omega (arith, ints)
turned false false r q d h = absurd (cc)

neither : (x y : Bool) → not x && not y ≡ true → (x ≡ false) × (y ≡ false)
neither true y e = absurd (cc)
neither false true e = absurd (cc)
neither false false e = (refl, refl)

-- a quotient that is rounded up leaves a rest, and the signs differ
rounds_parts : (a b : Integer) → 0 < b.size → IsProper a → IsProper b → rounds_up (integer_value a) (integer_value b) ≡ true → (0 < a.size % b.size) × (beq a.negative b.negative ≡ false)
rounds_parts a b h j k e =
    let n = neither (a.size % b.size == 0) (beq a.negative b.negative) (sym (rounds_up_by_signs a b h j k) ∙ e) in
    (rest_of (a.size % b.size) n.0, n.1)

-- so it can be raised by one
pub raised_fits : (a b : Integer) → 0 < b.size → IsProper a → IsProper b → rounds_up (integer_value a) (integer_value b) ≡ true → a.size < 2 ^ 128 → a.size / b.size + 1 < 2 ^ 128
raised_fits a b h j k e f = quotient_fits a.size b.size (rounds_parts a b h j k e).0 f h

pub floor_of_quotient : (a b : Integer) → 0 < b.size → IsProper a → IsProper b → rounds_up (integer_value a) (integer_value b) ≡ true → signed_of true (a.size / b.size + 1) ≡ floor_div (integer_value a) (integer_value b)
floor_of_quotient a b h j k e =
    let d : beq a.negative b.negative ≡ false = (rounds_parts a b h j k e).1 in
    let q : neg_ℤ (pos (a.size / b.size)) ≡ int_div (integer_value a) (integer_value b) =
    sym (ap (λ z. signed_of (not z) (a.size / b.size)) d) ∙ quotient_of_signs a.negative b.negative a.size b.size h in
    lowered (a.size / b.size)
    ∙ ap (λ z. z -ℤ pos 1) q
    ∙ sym (ap (λ z. if z then int_div (integer_value a) (integer_value b) -ℤ pos 1 else int_div (integer_value a) (integer_value b)) e)

pub floor_of_remainder : (a b : Integer) → 0 < b.size → IsProper a → IsProper b → rounds_up (integer_value a) (integer_value b) ≡ true → signed_of b.negative (b.size - a.size % b.size) ≡ floor_rem (integer_value a) (integer_value b)
floor_of_remainder a b h j k e =
    let d : beq a.negative b.negative ≡ false = (rounds_parts a b h j k e).1 in
    let r = remainder_of_signs a.negative b.negative a.size b.size h in
    turned a.negative b.negative (a.size % b.size) b.size d (mod_below a.size b.size h)
    ∙ ap (λ z. z +ℤ integer_value b) r
    ∙ sym (ap (λ z. if z then int_rem (integer_value a) (integer_value b) +ℤ integer_value b else int_rem (integer_value a) (integer_value b)) e)
