-- The bits of the nets are at least those of the values of cells.
use Rattle.std.proofs.Common.{◌≡◌, ◌≤◌, ℕ, zero, suc, ◌+◌, ◌*◌, ◌/◌, ◌%◌, ◌^◌, Bool, true, false, List, [], ◌∷◌, length, refl, sym, ◌∙◌, ap, subst, arith, ℤ, pos, ◌+ℤ◌, ◌*ℤ◌}
use Rattle.std.specs.Prelude.{if◌then◌else◌, slice_index_or}
use Rattle.std.proofs.Math.Nat.{div-add-mod}
use Rattle.std.proofs.lemmas.Int.{ints}
use Rattle.std.proofs.lemmas.Nat.{pow-add}
use borrow.Author.Differences.{up, down, same_in, sum_is_lem, product_is}
use lib.IntN.{*ℤ_comm}
use Rattle.cell_word.specs.Integers.{integer_bits}
use Rattle.cell_word.specs.Words.{unknown_of}
use Rattle.rtl_bits.proofs.NumberLemmas.{bits_of_number_of}
use Rattle.rtl_bits.specs.Knowledge.{AreKnown, Below}
use Rattle.rtl_bits.specs.Numbers.{bits_of, number_of}
use Rattle.rtl_bits.specs.declared.bit.Bit.{Bit}
use Rattle.rtl_bits.specs.declared.bit.Bit.TheVariants.{S0, X}
use Rattle.rtl_sig.specs.declared.sig.SigBit.{SigBit}
use Rattle.rtl_sig.specs.declared.sig.SigBit.TheVariants.{Fixed}
use Rattle.gate_nets.specs.Reading.{IsReading}
use Rattle.gate_nets.proofs.Adding.{low-length, low_of}
use Rattle.gate_nets.proofs.Nets.{Goods}
use Rattle.gate_nets.proofs.Residues.{Residue, residue_bits, residue_less}
use Rattle.gate_nets.proofs.Standing.{reads}
use Rattle.gate_divide.proofs.Numbers.{Word, known_low, low_small, low_split, rest_is, shifted}
use Rattle.gate_divide.proofs.Signals.{Reads}

-- two integers differ by a multiple of a number
record Alike (p : ℕ) (x z : ℤ) : Type 0 where
  above : ℕ
  below : ℕ
  is : x +ℤ pos (above * p) ≡ z +ℤ pos (below * p)

-- the same of their multiples
alike_times : (p : ℕ) (x z c : ℤ) → Alike p x z → Alike p (x *ℤ c) (z *ℤ c)
alike_times p x z c h =
    let s : up x + h.above * p + down z ≡ up z + h.below * p + down x = omega (arith, ints, h.is) in
    let first : (up x + h.above * p + down z) * up c ≡ (up z + h.below * p + down x) * up c = ap (λ t. t * up c) s in
    let second : (up x + h.above * p + down z) * down c ≡ (up z + h.below * p + down x) * down c = ap (λ t. t * down c) s in
    record {
      above = h.above * up c + h.below * down c;
      below = h.below * up c + h.above * down c;
      is = omega (arith, same_in, sum_is_lem, product_is, first, second);
    }

alike_turned : (p : ℕ) (x z c : ℤ) → Alike p x z → Alike p (c *ℤ x) (c *ℤ z)
alike_turned p x z c h = subst (λ t. Alike p t (c *ℤ z)) (*ℤ_comm x c) (subst (λ t. Alike p (x *ℤ c) t) (*ℤ_comm z c) (alike_times p x z c h))

distribute : (j k p : ℕ) → (j + k) * p ≡ j * p + k * p
distribute j k p = grind arith

alike_trans : (p : ℕ) (x y z : ℤ) → Alike p x y → Alike p y z → Alike p x z
alike_trans p x y z h i = record {
  above = h.above + i.above;
  below = h.below + i.below;
  is = omega (arith, ints, h.is, i.is, distribute h.above i.above p, distribute h.below i.below p);
}

from_residue : (n m : ℕ) (z : ℤ) → Residue n m z → Alike (2 ^ n) (pos m) z
from_residue n m z h = record { above = h.above; below = h.below; is = h.is }

-- the product of two numbers stands for that of the integers
pub residue_product : (n m k : ℕ) (z y : ℤ) → Residue n m z → Residue n k y → Residue n (m * k) (z *ℤ y)
residue_product n m k z y h i =
    let all = alike_trans (2 ^ n) (pos m *ℤ pos k) (z *ℤ pos k) (z *ℤ y) (alike_times (2 ^ n) (pos m) z (pos k) (from_residue n m z h)) (alike_turned (2 ^ n) (pos k) y z (from_residue n k y i)) in
    record { above = all.above; below = all.below; is = all.is }

-- what is left of a number modulo the power stands for what the number does
pub residue_rest : (n m : ℕ) (z : ℤ) → Residue n m z → Residue n (m % 2 ^ n) z
residue_rest n m z h = residue_less n m (m % 2 ^ n) (m / 2 ^ n) z (omega (arith, div-add-mod m (2 ^ n))) h

-- the bits of a word whose number stands for an integer
pub word_bits : (n m : ℕ) (z : ℤ) (v : ℕ → Bit) → AreKnown (low_of v n) → number_of (low_of v n) ≡ m → Residue n m z → low_of v n ≡ integer_bits z n
word_bits n m z v k e h =
    let own : bits_of (number_of (low_of v n)) n ≡ low_of v n = subst (λ j. bits_of (number_of (low_of v n)) j ≡ low_of v n) (low-length v n) (bits_of_number_of (low_of v n) k) in
    sym own ∙ ap (λ j. bits_of j n) e ∙ residue_bits n m z h

-- a number stands for an integer modulo a lesser power too
wider : (a p q : ℕ) → a * (p * q) ≡ a * q * p
wider a p q = grind arith

pub residue_narrow : (y k n m : ℕ) (z : ℤ) → n ≡ y + k → Residue n m z → Residue y m z
residue_narrow y k n m z e h =
    let p : 2 ^ n ≡ 2 ^ y * 2 ^ k = ap (λ t. 2 ^ t) e ∙ pow-add 2 y k in
    let a : h.above * 2 ^ n ≡ h.above * 2 ^ k * 2 ^ y = ap (λ t. h.above * t) p ∙ wider h.above (2 ^ y) (2 ^ k) in
    let b : h.below * 2 ^ n ≡ h.below * 2 ^ k * 2 ^ y = ap (λ t. h.below * t) p ∙ wider h.below (2 ^ y) (2 ^ k) in
    record {
      above = h.above * 2 ^ k;
      below = h.below * 2 ^ k;
      is = omega (arith, ints, h.is, a, b);
    }

-- the lowest bits of a word whose number stands for an integer
pub narrow_bits : (y k n m : ℕ) (z : ℤ) (v : ℕ → Bit) → n ≡ y + k → AreKnown (low_of v n) → number_of (low_of v n) ≡ m → Residue n m z → low_of v y ≡ integer_bits z y
narrow_bits y k n m z v e j f h =
    let low : number_of (low_of v y) ≡ m % 2 ^ y = rest_is (2 ^ y) (number_of (low_of v y)) (number_of (low_of (shifted y v) k)) m (sym (low_split y k n v e) ∙ f) (low_small v y) in
    word_bits y (m % 2 ^ y) z v (known_low y n v (omega (arith, e)) j) low (residue_rest y m z (residue_narrow y k n m z e h))

-- fewer bits of a function say no more
short_below : (y n at : ℕ) (v : ℕ → Bit) (z : Bit) → y ≤ n → Below (slice_index_or (low_of v n) at X) z → Below (slice_index_or (low_of v y) at X) z
short_below zero n at v z h b = tt
short_below (suc y) zero at v z h b = absurd (omega arith)
short_below (suc y) (suc n) zero v z h b = b
short_below (suc y) (suc n) (suc at) v z h b = short_below y n at (λ i. v (suc i)) z (omega arith) b

-- x is below all
unknown_below : (n at : ℕ) (z : Bit) → Below (slice_index_or (unknown_of n) at X) z
unknown_below zero at z = tt
unknown_below (suc n) zero z = tt
unknown_below (suc n) (suc at) z = unknown_below n at z

module _ (f : SigBit → Bit) (is : IsReading f) where
  -- bits that are read at least as a function gives are read at least as the word of the function
  low_below : (v : ℕ → Bit) (bits : List SigBit) → Goods (reads f is) v bits → (at : ℕ) → Below (slice_index_or (low_of v (length bits)) at X) (f (slice_index_or bits at (Fixed S0)))
  low_below v [] h at = tt
  low_below v (y ∷ bits) h zero = h.0
  low_below v (y ∷ bits) h (suc at) = low_below (λ i. v (suc i)) bits h.1 at

  -- bits of a word that stands for an integer where a test holds, else nothing is known of them
  pub integer_below : (t : Bool) (n m : ℕ) (z : ℤ) (w : Word (t ≡ true) n m) (bits : List SigBit) → Reads (reads f is) (t ≡ true) n m w bits → (t ≡ true → Residue n m z)
      → (at : ℕ) → Below (slice_index_or (if t then integer_bits z n else unknown_of n) at X) (f (slice_index_or bits at (Fixed S0)))
  integer_below true n m z w bits r stands at =
      subst (λ y. Below (slice_index_or y at X) (f (slice_index_or bits at (Fixed S0)))) (word_bits n m z w.value (w.known refl) (w.is refl) (stands refl))
      (subst (λ j. Below (slice_index_or (low_of w.value j) at X) (f (slice_index_or bits at (Fixed S0)))) r.width (low_below w.value bits r.has at))
  integer_below false n m z w bits r stands at = unknown_below n at (f (slice_index_or bits at (Fixed S0)))

  -- the same of a word that is wider than the integer's bits
  pub narrow_below : (t : Bool) (y k n m : ℕ) (z : ℤ) (w : Word (t ≡ true) n m) (bits : List SigBit) → n ≡ y + k → Reads (reads f is) (t ≡ true) n m w bits → (t ≡ true → Residue n m z)
      → (at : ℕ) → Below (slice_index_or (if t then integer_bits z y else unknown_of y) at X) (f (slice_index_or bits at (Fixed S0)))
  narrow_below true y k n m z w bits e r stands at =
      subst (λ x. Below (slice_index_or x at X) (f (slice_index_or bits at (Fixed S0)))) (narrow_bits y k n m z w.value e (w.known refl) (w.is refl) (stands refl))
      (short_below y n at w.value (f (slice_index_or bits at (Fixed S0))) (omega (arith, e))
      (subst (λ j. Below (slice_index_or (low_of w.value j) at X) (f (slice_index_or bits at (Fixed S0)))) r.width (low_below w.value bits r.has at)))
  narrow_below false y k n m z w bits e r stands at = unknown_below y at (f (slice_index_or bits at (Fixed S0)))
