-- Numbers of words that go on with a last bit.
use Rattle.std.proofs.Common.{◌≡◌, ◌≤◌, ℕ, zero, suc, ◌+◌, ◌*◌, ◌^◌, List, [], ◌∷◌, length, refl, ◌∙◌, ap, arith, pos, ◌+ℤ◌}
use Rattle.std.specs.Prelude.{slice_index_or}
use Rattle.std.proofs.lemmas.Int.{ints}
use Rattle.rtl_bits.specs.Numbers.{digit_of, number_of, top_of}
use Rattle.rtl_bits.specs.declared.bit.Bit.{Bit}
use Rattle.gate_nets.proofs.Adding.{low_of}
use Rattle.gate_nets.proofs.Residues.{going_on}

-- a number times a power is twice the number times the half
pub doubled : (j p e : ℕ) → e ≡ 2 * p → j * e ≡ j * p + j * p
doubled j p e h = ap (λ z. j * z) h ∙ grind arith

-- the number of a word that goes on with a last bit, at a width that it fits
pub exact_number : (n : ℕ) (d : Bit) (bits : List Bit) → length bits ≤ n → pos (number_of (low_of (λ at. slice_index_or bits at d) n)) ≡ going_on d bits +ℤ pos (digit_of d * 2 ^ n)
exact_number zero d [] h = omega (arith, ints)
exact_number zero d (b ∷ bits) h = absurd (omega arith)
exact_number (suc n) d [] h =
    let e : 2 ^ suc n ≡ 2 * 2 ^ n = omega arith in
    omega (arith, ints, exact_number n d [] (omega arith), doubled (digit_of d) (2 ^ n) (2 ^ suc n) e)
exact_number (suc n) d (b ∷ bits) h =
    let e : 2 ^ suc n ≡ 2 * 2 ^ n = omega arith in
    omega (arith, ints, exact_number n d bits (omega arith), doubled (digit_of d) (2 ^ n) (2 ^ suc n) e)

-- the last bit of an extended signed word
pub last_bit : (bits : List Bit) (k : ℕ) → length bits ≤ suc k → slice_index_or bits k (top_of bits) ≡ top_of bits
last_bit [] k h = refl
last_bit (b ∷ []) zero h = refl
last_bit (b ∷ []) (suc k) h = refl
last_bit (b ∷ c ∷ bits) zero h = absurd (omega arith)
last_bit (b ∷ c ∷ bits) (suc k) h = last_bit (c ∷ bits) k (omega arith)
