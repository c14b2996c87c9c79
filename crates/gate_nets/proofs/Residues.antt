-- Numbers that stand for integers modulo a power of two, and the numbers of extended words.
use Rattle.std.proofs.Common.{◌≡◌, ℕ, zero, suc, ◌+◌, ◌-◌, ◌*◌, ◌/◌, ◌%◌, ◌^◌, ◌<◌, Bool, true, false, List, [], ◌∷◌, length, sym, ◌∙◌, ap, subst, arith, ℤ, pos, negsuc, neg_ℤ, ◌+ℤ◌, ◌-ℤ◌}
use Rattle.std.specs.Prelude.{if◌then◌else◌, map, slice_index_or}
use Rattle.std.proofs.Math.Nat.{add-mul-mod_self_right, mod-mod}
use Rattle.std.proofs.lemmas.Int.{ints}
use Rattle.std.proofs.lemmas.Nat.{div-add-mod', mod_below, pow_pos}
use Rattle.cell_word.proofs.Residues.{bits_of_rest, bits_of_wrapped}
use Rattle.cell_word.specs.Integers.{integer_bits, integer_in}
use Rattle.cell_word.specs.Words.{extended_at, fill_of}
use Rattle.rtl_bits.specs.Numbers.{bits_of, digit_of, is_one, number_of, top_of}
use Rattle.rtl_bits.specs.Tables.{not_of}
use Rattle.rtl_bits.specs.declared.bit.Bit.{Bit}
use Rattle.rtl_bits.specs.declared.bit.Bit.TheVariants.{S0, S1, X, Z, M, Dash}
use Rattle.gate_nets.proofs.Adding.{low_of}

-- a number stands for an integer modulo 2 to the n
pub record Residue (n m : ℕ) (z : ℤ) : Type 0 where
  pub above : ℕ
  pub below : ℕ
  pub is : pos (m + above * 2 ^ n) ≡ z +ℤ pos (below * 2 ^ n)

pub residue_number : (n m : ℕ) → Residue n m (pos m)
residue_number n m = record { above = 0; below = 0; is = omega (arith, ints) }

distribute : (j k p : ℕ) → (j + k) * p ≡ j * p + k * p
distribute j k p = grind arith

pub residue_sum : (n m k : ℕ) (z y : ℤ) → Residue n m z → Residue n k y → Residue n (m + k) (z +ℤ y)
residue_sum n m k z y h i = record {
  above = h.above + i.above;
  below = h.below + i.below;
  is = omega (arith, ints, h.is, i.is, distribute h.above i.above (2 ^ n), distribute h.below i.below (2 ^ n));
}

-- the rest to the greatest number, and 1
pub residue_negative : (n m r : ℕ) (z : ℤ) → r + m + 1 ≡ 2 ^ n → Residue n m z → Residue n (r + 1) (neg_ℤ z)
residue_negative n m r z e h = record {
  above = h.below;
  below = h.above + 1;
  is = omega (arith, ints, h.is, e, distribute h.above 1 (2 ^ n));
}

-- the same with further multiples
pub residue_less : (n m k d : ℕ) (z : ℤ) → k + 2 ^ n * d ≡ m → Residue n m z → Residue n k z
residue_less n m k d z e h = record {
  above = d + h.above;
  below = h.below;
  is =
      let turned : 2 ^ n * d ≡ d * 2 ^ n = grind arith in
      omega (arith, ints, h.is, e, turned, distribute d h.above (2 ^ n));
}

same_rest : (m k j i p : ℕ) → m + j * p ≡ k + i * p → m % p ≡ k % p
same_rest m k j i p e =
    sym (add-mul-mod_self_right m j p) ∙ ap (λ z. z % p) e ∙ add-mul-mod_self_right k i p

one_more : (k p : ℕ) → suc k * p ≡ k * p + p
one_more k p = grind arith

rest_of : (a p q r k m j : ℕ) → q * p + r ≡ a → r < p → m + j * p + a + 1 ≡ k * p + p → m + (j + q) * p ≡ (p - 1 - r) + k * p
rest_of a p q r k m j e h f = omega (arith, distribute j q p)

-- its low bits are those of the integer
pub residue_bits : (n m : ℕ) (z : ℤ) → Residue n m z → bits_of m n ≡ integer_bits z n
residue_bits n m (pos a) h =
    bits_of_wrapped m a n n (same_rest m a h.above h.below (2 ^ n) (omega (arith, ints, h.is))) (omega arith)
residue_bits n m (negsuc a) h = by h.below h.is
  where
    by : (below : ℕ) → pos (m + h.above * 2 ^ n) ≡ negsuc a +ℤ pos (below * 2 ^ n) → bits_of m n ≡ map not_of (bits_of a n)
    by zero is = absurd (omega (arith, ints, is))
    by (suc k) is =
        let q : ℕ = a / 2 ^ n in
        let r : ℕ = a % 2 ^ n in
        let small : r < 2 ^ n = mod_below a (2 ^ n) (pow_pos n) in
        let whole : m + h.above * 2 ^ n + a + 1 ≡ k * 2 ^ n + 2 ^ n = omega (arith, ints, is, one_more k (2 ^ n)) in
        let same : m % 2 ^ n ≡ (2 ^ n - 1 - r) % 2 ^ n = same_rest m (2 ^ n - 1 - r) (h.above + q) k (2 ^ n) (rest_of a (2 ^ n) q r k m h.above (div-add-mod' a (2 ^ n)) small whole) in
        let rest : (2 ^ n - 1 - r) + r + 1 ≡ 2 ^ n = omega (arith, small) in
        bits_of_wrapped m (2 ^ n - 1 - r) n n same (omega arith)
        ∙ bits_of_rest (2 ^ n - 1 - r) r n n rest (omega arith)
        ∙ ap (map not_of) (bits_of_wrapped r a n n (mod-mod a (2 ^ n)) (omega arith))

-- the integer that bits stand for which go on with a last one
abbrev pub going_on : Bit → List Bit → ℤ
going_on d [] = neg_ℤ (pos (digit_of d))
going_on d (b ∷ bits) = pos (digit_of b) +ℤ (going_on d bits +ℤ going_on d bits)

doubled : (j p e : ℕ) → e ≡ 2 * p → j * e ≡ j * p + j * p
doubled j p e h = ap (λ z. j * z) h ∙ grind arith

step : (n d m : ℕ) (z : ℤ) → Residue n m z → Residue (suc n) (d + 2 * m) (pos d +ℤ (z +ℤ z))
step n d m z h =
    let e : 2 ^ suc n ≡ 2 * 2 ^ n = omega arith in
    record {
      above = h.above;
      below = h.below;
      is = omega (arith, ints, h.is, doubled h.above (2 ^ n) (2 ^ suc n) e, doubled h.below (2 ^ n) (2 ^ suc n) e);
    }

none : (z : ℤ) → Residue 0 0 z
none (pos a) = record { above = a; below = 0; is = omega (arith, ints) }
none (negsuc a) = record { above = 0; below = suc a; is = omega (arith, ints) }

-- the low bits of a word that goes on with a last bit
pub residue_low : (n : ℕ) (d : Bit) (bits : List Bit) → Residue n (number_of (low_of (λ at. slice_index_or bits at d) n)) (going_on d bits)
residue_low zero d bits = none (going_on d bits)
residue_low (suc n) d [] =
    let rest = step n (digit_of d) _ _ (residue_low n d []) in
    let e : pos (digit_of d) +ℤ (neg_ℤ (pos (digit_of d)) +ℤ neg_ℤ (pos (digit_of d))) ≡ neg_ℤ (pos (digit_of d)) = omega (arith, ints) in
    subst (Residue (suc n) (digit_of d + 2 * number_of (low_of (λ at. d) n))) e rest
residue_low (suc n) d (b ∷ bits) = step n (digit_of b) _ _ (residue_low n d bits)

going_number : (d : Bit) (bits : List Bit) → going_on d bits +ℤ pos (digit_of d * 2 ^ length bits) ≡ pos (number_of bits)
going_number d [] = omega (arith, ints)
going_number d (b ∷ bits) =
    let e : 2 ^ suc (length bits) ≡ 2 * 2 ^ length bits = omega arith in
    omega (arith, ints, going_number d bits, doubled (digit_of d) (2 ^ length bits) (2 ^ suc (length bits)) e)

-- which is what the word stands for, where it goes on as it is to be extended
pub going_integer : (signed : Bool) (bits : List Bit) → going_on (fill_of signed bits) bits ≡ integer_in signed bits
going_integer false bits = omega (arith, ints, going_number S0 bits)
going_integer true bits = by (top_of bits)
  where
    by : (d : Bit) → going_on d bits ≡ (if is_one d then pos (number_of bits) -ℤ pos (2 ^ length bits) else pos (number_of bits))
    by S0 = omega (arith, ints, going_number S0 bits)
    by S1 = omega (arith, ints, going_number S1 bits)
    by X = omega (arith, ints, going_number X bits)
    by Z = omega (arith, ints, going_number Z bits)
    by M = omega (arith, ints, going_number M bits)
    by Dash = omega (arith, ints, going_number Dash bits)

-- the number of an extended word stands for its integer
pub residue_extended : (n : ℕ) (signed : Bool) (bits : List Bit) → Residue n (number_of (low_of (extended_at signed bits) n)) (integer_in signed bits)
residue_extended n signed bits =
    subst (Residue n (number_of (low_of (extended_at signed bits) n))) (going_integer signed bits) (residue_low n (fill_of signed bits) bits)
