-- Numbers and the bits that stand for them.
use Rattle.std.proofs.Common.{◌≡◌, refl, sym, ◌∙◌, ap, ℕ, zero, suc, ◌+◌, ◌-◌, ◌*◌, ◌/◌, ◌%◌, ◌^◌, ◌<◌, ◌≤◌, true, false, List, [], ◌∷◌, ◌++◌, length, get_or, drop, arith, add-one, length-drop, append_assoc, inl, inr, pos, neg_ℤ, ◌≤ℤ◌, ◌<ℤ◌}
use Rattle.std.proofs.Math.Nat.{pow-succ', pow-le-pow_right}
use Rattle.std.proofs.lemmas.Nat.Bits.{ones_shr}
use Rattle.std.proofs.lemmas.Nat.{mod-pow-add}
use Rattle.std.proofs.lemmas.Bool.{cases_lt, cases_Bool}
use Rattle.std.proofs.lemmas.Int.{ints}
use Rattle.std.specs.Prelude.{◌==◌, if◌then◌else◌}
use Rattle.std.proofs.Math.Seq.{drop-cons}
use Rattle.rtl_bits.specs.declared.bit.Bit.{Bit}
use Rattle.rtl_bits.specs.declared.bit.Bit.TheVariants.{S0, S1}
use Rattle.rtl_bits.specs.Knowledge.{IsKnown, AreKnown}
use Rattle.rtl_bits.specs.Numbers.{digit_of, number_of, low_bit_of, bits_of, top_of, is_one, integer_of, HasNumber}
use Rattle.rtl_bits.proofs.Lists.{known_at}

-- the bits of a number, cut at place i: the next one and those of the half
pub bits_of_next : (n i width : ℕ) → i < width → bits_of n (width - i) ≡ low_bit_of n ∷ bits_of (n / 2) (width - (i + 1))
bits_of_next n i width h =
    let e : width - i ≡ suc (width - (i + 1)) = omega arith in
    ap (bits_of n) e

-- the bits so far and those of the rest are the whole, also after one more
pub bits_of_step : (bits : List Bit) (n i width : ℕ) (whole : List Bit) → i < width → bits ++ bits_of n (width - i) ≡ whole → (bits ++ low_bit_of n ∷ []) ++ bits_of (n / 2) (width - (i + 1)) ≡ whole
bits_of_step bits n i width whole h e =
    append_assoc bits (low_bit_of n ∷ []) (bits_of (n / 2) (width - (i + 1)))
    ∙ ap (λ z. bits ++ z) (sym (bits_of_next n i width h)) ∙ e

-- a digit is 0 or 1
digit_of_small : (b : Bit) → digit_of b ≤ 1
digit_of_small S1 = omega arith
digit_of_small b = omega arith

-- a number is below 2 to the count of its bits
pub number_of_small : (bits : List Bit) → number_of bits < 2 ^ length bits
number_of_small [] = omega arith
number_of_small (b ∷ bits) =
    let s = number_of_small bits in
    let d = digit_of_small b in
    omega (arith, pow-succ' 2 (length bits))

-- a number whose top bit is 1 is at least half of 2 to the count of its bits
pub number_of_high : (bits : List Bit) → is_one (top_of bits) ≡ true → 2 ^ length bits ≤ 2 * number_of bits
number_of_high [] e = absurd (cc)
number_of_high (S1 ∷ []) e = omega arith
number_of_high (b ∷ []) e = absurd (cc)
number_of_high (b ∷ c ∷ bits) e =
    let h = number_of_high (c ∷ bits) e in
    omega (arith, pow-succ' 2 (length (c ∷ bits)))

-- a number whose top bit is not 1 is below that half
pub number_of_low : (bits : List Bit) → 0 < length bits → is_one (top_of bits) ≡ false → 2 * number_of bits < 2 ^ length bits
number_of_low [] p e = absurd (omega arith)
number_of_low (S1 ∷ []) p e = absurd (cc)
number_of_low (b ∷ []) p e = omega arith
number_of_low (b ∷ c ∷ bits) p e =
    let h = number_of_low (c ∷ bits) (omega arith) e in
    let d = digit_of_small b in
    omega (arith, pow-succ' 2 (length (c ∷ bits)), pow-succ' 2 (length bits))

-- the top bit is the last one
pub top_of_last : (bits : List Bit) (d : Bit) → 0 < length bits → top_of bits ≡ get_or bits (length bits - 1) d
top_of_last [] d p = absurd (omega arith)
top_of_last (b ∷ []) d p = refl
top_of_last (b ∷ c ∷ bits) d p =
    let e : length (b ∷ c ∷ bits) - 1 ≡ suc (length (c ∷ bits) - 1) = omega arith in
    rw e (top_of_last (c ∷ bits) d (omega arith))

-- the greatest number of 128 bits, cut to a width
pub greatest_of : (width : ℕ) → width ≤ 128 → 340282366920938463463374607431768211455 / 2 ^ (128 - width) ≡ 2 ^ width - 1
greatest_of width h =
    let e : 128 - (128 - width) ≡ width = omega arith in
    ones_shr 128 (128 - width) (omega arith) ∙ ap (λ k. 2 ^ k - 1) e

-- a number of at most 128 bits is below 2 to the 128
pub power_fits : (width : ℕ) → width ≤ 128 → 2 ^ width ≤ 2 ^ 128
power_fits width h = pow-le-pow_right {n = 2} (omega arith) h

-- the bits from the one below place i up are that bit and those from place i
pub drop_here : (bits : List Bit) (i : ℕ) (d : Bit) → 0 < i → i ≤ length bits → drop (i - 1) bits ≡ get_or bits (i - 1) d ∷ drop i bits
drop_here bits i d p h =
    let e : suc (i - 1) ≡ i = omega arith in
    drop-cons bits (i - 1) d (omega arith) ∙ ap (λ k. get_or bits (i - 1) d ∷ drop k bits) e

-- below the top of at most 128 bits there is room for one more
pub digit_fits : (bits : List Bit) (i : ℕ) → 0 < i → i ≤ length bits → length bits ≤ 128 → 2 * number_of (drop i bits) + 1 < 2 ^ 128
digit_fits bits i q h k =
    let l : length (drop i bits) + 1 ≤ 128 = omega (arith, length-drop i bits) in
    let s = number_of_small (drop i bits) in
    let p = power_fits (suc (length (drop i bits))) (omega arith) in
    omega (arith, pow-succ' 2 (length (drop i bits)))

-- a list with an unknown bit has no number
pub unknown_at : (bits : List Bit) (i : ℕ) (d : Bit) → i < length bits → ¬ IsKnown (get_or bits i d) → ¬ HasNumber bits
unknown_at bits i d h u n = u (known_at bits i d n.0 h)

-- the digit of the lowest bit
digit_of_low : (n : ℕ) → digit_of (low_bit_of n) ≡ n % 2
digit_of_low n =
    elim (cases_lt (n % 2) 1) [
      | inl h ↦ let e : n % 2 ≡ 0 = omega arith in ap (λ k. digit_of (if k == 1 then S1 else S0)) e ∙ sym e
      | inr h ↦ let e : n % 2 ≡ 1 = omega arith in ap (λ k. digit_of (if k == 1 then S1 else S0)) e ∙ sym e
    ]

pub bits_of_length : (n width : ℕ) → length (bits_of n width) ≡ width
bits_of_length n zero = refl
bits_of_length n (suc width) = ap suc (bits_of_length (n / 2) width)

low_bit_known : (n : ℕ) → IsKnown (low_bit_of n)
low_bit_known n = elim (n % 2 == 1) as (λ b. IsKnown (if b then S1 else S0)) [ true ↦ tt | false ↦ tt ]

pub bits_of_known : (n width : ℕ) → AreKnown (bits_of n width)
bits_of_known n zero = tt
bits_of_known n (suc width) = (low_bit_known n, bits_of_known (n / 2) width)

-- the bits of a number stand for it, but for what lies above the width
pub number_of_bits_of : (n width : ℕ) → number_of (bits_of n width) ≡ n % 2 ^ width
number_of_bits_of n zero = omega arith
number_of_bits_of n (suc width) =
    let d = digit_of_low n in
    let h = number_of_bits_of (n / 2) width in
    let m : n % 2 ^ suc width ≡ (n / 2 % 2 ^ width) * 2 + n % 2 = rw (← add-one width) (mod-pow-add n width 1) in
    omega (arith, m)

low_bit_of_sum : (b : Bit) (n : ℕ) → IsKnown b → low_bit_of (digit_of b + 2 * n) ≡ b
low_bit_of_sum S0 n k = let e : (0 + 2 * n) % 2 ≡ 0 = omega arith in ap (λ m. if m == 1 then S1 else S0) e
low_bit_of_sum S1 n k = let e : (1 + 2 * n) % 2 ≡ 1 = omega arith in ap (λ m. if m == 1 then S1 else S0) e
low_bit_of_sum b n k = absurd k

half_of_sum : (b : Bit) (n : ℕ) → (digit_of b + 2 * n) / 2 ≡ n
half_of_sum b n = let d = digit_of_small b in omega arith

-- known bits are those of their number
pub bits_of_number_of : (bits : List Bit) → AreKnown bits → bits_of (number_of bits) (length bits) ≡ bits
bits_of_number_of [] k = refl
bits_of_number_of (b ∷ bits) k =
    ap (λ z. z ∷ bits_of (number_of (b ∷ bits) / 2) (length bits)) (low_bit_of_sum b (number_of bits) k.0)
    ∙ ap (λ m. b ∷ bits_of m (length bits)) (half_of_sum b (number_of bits))
    ∙ ap (λ z. b ∷ z) (bits_of_number_of bits k.1)

-- the half of the numbers of a width
half_of_power : (width : ℕ) → 0 < width → 2 ^ width ≡ 2 * 2 ^ (width - 1)
half_of_power width h =
    let e : suc (width - 1) ≡ width = omega arith in
    ap (λ k. 2 ^ k) (sym e) ∙ pow-succ' 2 (width - 1)

-- an integer is at least the least one of its width
pub integer_of_least : (bits : List Bit) → 0 < length bits → neg_ℤ (pos (2 ^ (length bits - 1))) ≤ℤ integer_of bits
integer_of_least bits h = elim (cases_Bool (is_one (top_of bits))) [
  | inl e ↦ let s = number_of_high bits e in rw e (omega (arith, ints, half_of_power (length bits) h))
  | inr e ↦ rw e (omega (arith, ints))
]

-- an integer is below the half of the numbers of its width
pub integer_of_greatest : (bits : List Bit) → 0 < length bits → integer_of bits <ℤ pos (2 ^ (length bits - 1))
integer_of_greatest bits h = elim (cases_Bool (is_one (top_of bits))) [
  | inl e ↦ let s = number_of_small bits in rw e (omega (arith, ints))
  | inr e ↦ let s = number_of_low bits h e in rw e (omega (arith, ints, half_of_power (length bits) h))
]

-- a number is at least twice that of the bits above its lowest one
twice_tail : (b : Bit) (bits : List Bit) → 2 * number_of bits ≤ number_of (b ∷ bits)
twice_tail b bits = omega arith

-- a number is at least that of the bits from a place on
drop_least : (bits : List Bit) (i : ℕ) → number_of (drop i bits) ≤ number_of bits
drop_least bits zero = omega arith
drop_least [] (suc i) = omega arith
drop_least (b ∷ bits) (suc i) = let h = drop_least bits i in omega arith

-- a number is at least twice that of the bits above a place
pub number_of_drop : (bits : List Bit) (i : ℕ) → 0 < i → i ≤ length bits → 2 * number_of (drop i bits) ≤ number_of bits
number_of_drop [] (suc i) p h = absurd (omega arith)
number_of_drop (b ∷ bits) (suc i) p h = let l = drop_least bits i in omega arith
number_of_drop bits zero p h = absurd (omega arith)

-- for `numbers_round_trip`
pub ruleset numbers_round_trip_laws = (number_of_bits_of, bits_of_number_of, number_of_small, bits_of_length, bits_of_known)

-- for `unsigned`
pub ruleset digits_read = (digit_fits, drop_here, unknown_at)

-- for `signed`
pub ruleset integers_read = (number_of_small, number_of_high, number_of_low, power_fits)
