-- The bits of numbers modulo a power of two.
use Rattle.std.proofs.Common.{◌≡◌, refl, sym, ◌∙◌, ap, ℕ, zero, suc, ◌+◌, ◌-◌, ◌*◌, ◌/◌, ◌%◌, ◌^◌, ◌≤◌, ◌∷◌, map, arith, add-one, inl, inr, pos, neg_ℤ}
use Rattle.std.specs.Prelude.{◌==◌, if◌then◌else◌}
use Rattle.std.proofs.Math.Nat.{pow-succ'}
use Rattle.std.proofs.lemmas.Nat.{mod-pow-add}
use Rattle.std.proofs.lemmas.Bool.{cases_lt}
use Rattle.rtl_bits.specs.declared.bit.Bit.TheVariants.{S0, S1}
use Rattle.rtl_bits.specs.Tables.{not_of}
use Rattle.rtl_bits.specs.Numbers.{low_bit_of, bits_of}
use Rattle.cell_word.specs.Integers.{integer_bits}

-- a residue by the residue of the half
halved : (n k : ℕ) → n % 2 ^ suc k ≡ (n / 2 % 2 ^ k) * 2 + n % 2
halved n k = rw (← add-one k) (mod-pow-add n k 1)

-- numbers that agree modulo 2 to the k have the same low bits
pub bits_of_wrapped : (m n k width : ℕ) → m % 2 ^ k ≡ n % 2 ^ k → width ≤ k → bits_of m width ≡ bits_of n width
bits_of_wrapped m n k zero e h = refl
bits_of_wrapped m n zero (suc width) e h = absurd (omega arith)
bits_of_wrapped m n (suc k) (suc width) e h =
    let a = halved m k in
    let b = halved n k in
    let low : m % 2 ≡ n % 2 = omega arith in
    let high : m / 2 % 2 ^ k ≡ n / 2 % 2 ^ k = omega arith in
    ap (λ r. (if r == 1 then S1 else S0) ∷ bits_of (m / 2) width) low
    ∙ ap (λ z. low_bit_of n ∷ z) (bits_of_wrapped (m / 2) (n / 2) k width high (omega arith))

-- the lowest bit of a number of the other parity
low_bit_inverse : (m n : ℕ) → m % 2 + n % 2 ≡ 1 → low_bit_of m ≡ not_of (low_bit_of n)
low_bit_inverse m n e = elim (cases_lt (n % 2) 1) [
  | inl h ↦ let a : m % 2 ≡ 1 = omega arith in let b : n % 2 ≡ 0 = omega arith in
      ap (λ r. if r == 1 then S1 else S0) a ∙ sym (ap (λ r. not_of (if r == 1 then S1 else S0)) b)
  | inr h ↦ let a : m % 2 ≡ 0 = omega arith in let b : n % 2 ≡ 1 = omega arith in
      ap (λ r. if r == 1 then S1 else S0) a ∙ sym (ap (λ r. not_of (if r == 1 then S1 else S0)) b)
]

-- what is left up to the greatest number of k bits has the inverse bits
pub bits_of_rest : (m n k width : ℕ) → m + n + 1 ≡ 2 ^ k → width ≤ k → bits_of m width ≡ map not_of (bits_of n width)
bits_of_rest m n k zero e h = refl
bits_of_rest m n zero (suc width) e h = absurd (omega arith)
bits_of_rest m n (suc k) (suc width) e h =
    let p = pow-succ' 2 k in
    let low : m % 2 + n % 2 ≡ 1 = omega arith in
    let high : m / 2 + n / 2 + 1 ≡ 2 ^ k = omega arith in
    ap (λ z. z ∷ bits_of (m / 2) width) (low_bit_inverse m n low)
    ∙ ap (λ z. not_of (low_bit_of n) ∷ z) (bits_of_rest (m / 2) (n / 2) k width high (omega arith))

-- the bits of what is left up to 2 to the 128 are those of the negative number
pub bits_of_negative : (r m width : ℕ) → (r + m) % 2 ^ 128 ≡ 0 → width ≤ 128 → bits_of r width ≡ integer_bits (neg_ℤ (pos m)) width
bits_of_negative r zero width e h = bits_of_wrapped r 0 128 width (omega arith) h
bits_of_negative r (suc n) width e h =
    let s : (2 ^ 128 - 1 - n % 2 ^ 128) + n % 2 ^ 128 + 1 ≡ 2 ^ 128 = omega arith in
    bits_of_wrapped r (2 ^ 128 - 1 - n % 2 ^ 128) 128 width (omega arith) h
    ∙ bits_of_rest (2 ^ 128 - 1 - n % 2 ^ 128) (n % 2 ^ 128) 128 width s h
    ∙ ap (map not_of) (bits_of_wrapped (n % 2 ^ 128) n 128 width (omega arith) h)
