-- The bits of the nets are at least those of the values of cells.
use Rattle.std.proofs.Common.{◌≡◌, ℕ, max, Bool, true, false, List, length, refl, subst, arith, ◌+ℤ◌, pos}
use Rattle.std.specs.Prelude.{if◌then◌else◌, slice_index_or}
use Rattle.cell_types.specs.declared.word.ShiftKind.{ShiftKind}
use Rattle.cell_word.specs.Shifts.{distance_of, moved_of, read_of, shifted_of}
use Rattle.cell_word.specs.Words.{extended_at, unknown_of}
use Rattle.rtl_bits.proofs.Lists.{all_known_true}
use Rattle.rtl_bits.specs.Knowledge.{Below, all_known}
use Rattle.rtl_bits.specs.declared.bit.Bit.{Bit}
use Rattle.rtl_bits.specs.declared.bit.Bit.TheVariants.{S0, X}
use Rattle.rtl_sig.specs.declared.sig.SigBit.{SigBit}
use Rattle.rtl_sig.specs.declared.sig.SigBit.TheVariants.{Fixed}
use Rattle.gate_nets.specs.Reading.{IsReading}
use Rattle.gate_nets.proofs.Nets.{Goods}
use Rattle.gate_nets.proofs.Standing.{reads}
use Rattle.gate_nets.proofs.Values.{good_at, unknown_below, word_below}
use Rattle.map_shift.proofs.Distances.{bits_at}
use Rattle.map_shift.proofs.Readings.{fill_bit, moved_bits, moved_reads}

module _ (f : SigBit → Bit) (is : IsReading f) where
  pub value_below : (kind : ShiftKind) (a_signed b_signed : Bool) (a b : List Bit) (y width : ℕ) (bits : List SigBit) → width ≡ max (length a) y
      → Goods (reads f is) (moved_bits kind b_signed (fill_bit kind a_signed a) width (extended_at a_signed a) (bits_at b) (length b)) bits → length bits ≡ width
      → (at : ℕ) → Below (slice_index_or (shifted_of kind a_signed b_signed a b y) at X) (f (slice_index_or bits at (Fixed S0)))
  value_below kind a_signed b_signed a b y width bits e h n at = by (all_known b) refl
    where
      z : Bit
      z = f (slice_index_or bits at (Fixed S0))

      by : (t : Bool) → all_known b ≡ t → Below (slice_index_or (if t then moved_of kind a_signed a (distance_of kind b_signed b) y else unknown_of y) at X) z
      by false k = unknown_below y at z
      by true k =
          word_below (λ at. read_of kind a_signed a (max (length a) y) (pos at +ℤ distance_of kind b_signed b)) y at z
          (λ lt.
          subst (λ w. Below (read_of kind a_signed a w (pos at +ℤ distance_of kind b_signed b)) z) e
          (moved_reads a_signed a b width at z (all_known_true b k) (omega (arith, e, lt)) (omega (arith, e)) kind b_signed
          (good_at f is _ bits h at (omega (arith, e, n, lt)))))
