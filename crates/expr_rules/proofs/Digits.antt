-- The bits of numbers, place by place, and words as the low bits of their integers.
use Rattle.std.proofs.Common.{◌≡◌, inl, inr, ⊎_elim, ℕ, zero, suc, ◌+◌, ◌/◌, ◌^◌, ◌<◌, ◌≤◌, Bool, true, false, List, [], ◌∷◌, length, map, refl, sym, ◌∙◌, ap, subst, arith, pos, negsuc, ◌-ℤ◌}
use Rattle.std.specs.Prelude.{slice_index_or, if◌then◌else◌}
use Rattle.std.proofs.lemmas.Bool.{cases_lt, cases_Bool}
use Rattle.std.proofs.lemmas.Int.{ints}
use Rattle.std.proofs.lemmas.List.{ext_get_or}
use Rattle.std.proofs.lemmas.List.FromFn.{length-map-range_with_len}
use Rattle.std.proofs.Math.ListN.{get_or-eq_default, get_or-map}
use Rattle.std.proofs.Math.Nat.{div-eq_of_lt, div-one, pow-succ', pow-le-pow_right}
use Rattle.std.proofs.Math.Pow.{shr-shr}
use Rattle.rtl_bits.specs.Knowledge.{AreKnown}
use Rattle.rtl_bits.specs.Numbers.{bits_of, is_one, low_bit_of, number_of, top_of}
use Rattle.rtl_bits.specs.Tables.{not_of}
use Rattle.rtl_bits.specs.declared.bit.Bit.{Bit}
use Rattle.rtl_bits.specs.declared.bit.Bit.TheVariants.{S0, S1, X}
use Rattle.rtl_bits.proofs.NumberLemmas.{bits_of_number_of, number_of_small}
use Rattle.cell_word.specs.Integers.{integer_bits, integer_in}
use Rattle.cell_word.specs.Words.{extended_at, word_of}
use Rattle.cell_word.proofs.Monotone.{integer_bits_length}
use Rattle.expr_rules.proofs.Reading.{default_at, word_at}

-- a bit of a number
pub bits_at : (n width at : ℕ) → at < width → slice_index_or (bits_of n width) at X ≡ low_bit_of (n / 2 ^ at)
bits_at n zero at h = absurd (omega arith)
bits_at n (suc width) zero h = ap low_bit_of (sym (div-one n))
bits_at n (suc width) (suc at) h =
    bits_at (n / 2) width at (omega arith)
    ∙ ap low_bit_of (shr-shr n 1 at ∙ ap (λ k. n / 2 ^ k) (omega arith))

-- past a number's bits are zeros
pub past_bits : (n k at : ℕ) → n < 2 ^ k → k ≤ at → low_bit_of (n / 2 ^ at) ≡ S0
past_bits n k at h l =
    let p : 2 ^ k ≤ 2 ^ at = pow-le-pow_right {n = 2} (omega arith) l in
    let q : n < 2 ^ at = omega arith in
    ap low_bit_of (div-eq_of_lt q)

-- the bits of the number that known bits stand for are these, and zeros past them
pub known_bits : (bits : List Bit) (at : ℕ) → AreKnown bits → low_bit_of (number_of bits / 2 ^ at) ≡ slice_index_or bits at S0
known_bits bits at k = ⊎_elim
    (λ lt. sym (bits_at (number_of bits) (length bits) at lt) ∙ ap (λ w. slice_index_or w at X) (bits_of_number_of bits k) ∙ default_at bits at X S0 lt)
    (λ ge. past_bits (number_of bits) (length bits) at (number_of_small bits) ge ∙ sym (get_or-eq_default bits S0 ge))
    (cases_lt at (length bits))

-- the inverse of known bits
number_inverse : (bits : List Bit) → AreKnown bits → number_of (map not_of bits) + number_of bits + 1 ≡ 2 ^ length bits
number_inverse [] k = refl
number_inverse (S0 ∷ bits) k = let h = number_inverse bits k.1 in omega (arith, pow-succ' 2 (length bits))
number_inverse (S1 ∷ bits) k = let h = number_inverse bits k.1 in omega (arith, pow-succ' 2 (length bits))
number_inverse (b ∷ bits) k = absurd k.0

inverse_known : (bits : List Bit) → AreKnown bits → AreKnown (map not_of bits)
inverse_known [] k = tt
inverse_known (S0 ∷ bits) k = (tt, inverse_known bits k.1)
inverse_known (S1 ∷ bits) k = (tt, inverse_known bits k.1)
inverse_known (b ∷ bits) k = absurd k.0

twice_inverse : (bits : List Bit) (at : ℕ) → AreKnown bits → not_of (slice_index_or (map not_of bits) at S0) ≡ slice_index_or bits at S1
twice_inverse [] at k = refl
twice_inverse (S0 ∷ bits) zero k = refl
twice_inverse (S1 ∷ bits) zero k = refl
twice_inverse (S0 ∷ bits) (suc at) k = twice_inverse bits at k.1
twice_inverse (S1 ∷ bits) (suc at) k = twice_inverse bits at k.1
twice_inverse (b ∷ bits) at k = absurd k.0

top_one : (b : Bit) → is_one b ≡ true → b ≡ S1
top_one S1 e = refl
top_one b e = absurd (cc)

top_zero : (bits : List Bit) → AreKnown bits → is_one (top_of bits) ≡ false → top_of bits ≡ S0
top_zero [] k e = refl
top_zero (S0 ∷ []) k e = refl
top_zero (S1 ∷ []) k e = absurd (cc)
top_zero (b ∷ []) k e = absurd k.0
top_zero (b ∷ c ∷ bits) k e = top_zero (c ∷ bits) k.1 e

negative_at : (n width at : ℕ) → at < width → slice_index_or (integer_bits (negsuc n) width) at X ≡ not_of (low_bit_of (n / 2 ^ at))
negative_at n width at h = get_or-map not_of (bits_of n width) at X ∙ ap not_of (bits_at n width at h)

-- a bit of the integer that known bits stand for is the bit of the extended word
integer_at : (signed : Bool) (bits : List Bit) (width at : ℕ) → AreKnown bits → at < width → slice_index_or (integer_bits (integer_in signed bits) width) at X ≡ extended_at signed bits at
integer_at false bits width at k h = bits_at (number_of bits) width at h ∙ known_bits bits at k
integer_at true bits width at k h = elim (cases_Bool (is_one (top_of bits))) [
  | inl e ↦
      let m : ℕ = number_of (map not_of bits) in
      let n = number_inverse bits k in
      let z : pos (number_of bits) -ℤ pos (2 ^ length bits) ≡ negsuc m = omega (arith, ints) in
      ap (λ t. slice_index_or (integer_bits (if t then pos (number_of bits) -ℤ pos (2 ^ length bits) else pos (number_of bits)) width) at X) e
      ∙ ap (λ z. slice_index_or (integer_bits z width) at X) z
      ∙ negative_at m width at h
      ∙ ap not_of (known_bits (map not_of bits) at (inverse_known bits k))
      ∙ twice_inverse bits at k
      ∙ ap (slice_index_or bits at) (sym (top_one (top_of bits) e))
  | inr e ↦
      ap (λ t. slice_index_or (integer_bits (if t then pos (number_of bits) -ℤ pos (2 ^ length bits) else pos (number_of bits)) width) at X) e
      ∙ bits_at (number_of bits) width at h
      ∙ known_bits bits at k
      ∙ ap (slice_index_or bits at) (sym (top_zero bits k e))
]

-- the low bits of the integer of known bits are the extended word
pub integer_word : (signed : Bool) (bits : List Bit) (width : ℕ) → AreKnown bits → integer_bits (integer_in signed bits) width ≡ word_of (extended_at signed bits) width
integer_word signed bits width k =
    ext_get_or X (integer_bits (integer_in signed bits) width) (word_of (extended_at signed bits) width)
    (integer_bits_length (integer_in signed bits) width ∙ sym (length-map-range_with_len (extended_at signed bits) 0 width))
    (λ at h.
    let lt : at < width = subst (λ n. at < n) (integer_bits_length (integer_in signed bits) width) h in
    integer_at signed bits width at k lt ∙ sym (word_at (extended_at signed bits) width at lt))
