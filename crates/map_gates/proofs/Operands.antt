-- What the bits of operands have under a valuation.
use Rattle.std.proofs.Common.{◌≡◌, ℕ, zero, suc, ◌-◌, Bool, true, false, List, [], ◌∷◌, length, refl, sym, ◌∙◌, ap, arith}
use Rattle.std.specs.Prelude.{slice_get, slice_index_or, unwrap_or}
use Rattle.rtl_bits.proofs.Orders.{Below_refl}
use Rattle.rtl_bits.specs.Knowledge.{Below}
use Rattle.rtl_bits.specs.Numbers.{top_of}
use Rattle.rtl_bits.specs.declared.bit.Bit.TheVariants.{S0, X}
use Rattle.rtl_sig.specs.Signal.{fill_of}
use Rattle.rtl_sig.specs.declared.sig.SigBit.{SigBit}
use Rattle.rtl_sig.specs.declared.sig.SigBit.TheVariants.{Fixed}
use Rattle.rtl_ir.specs.Flat.Place.{Path}
use Rattle.rtl_ir.specs.Flat.Point.{point, points}
use Rattle.rtl_ir.specs.declared.wire.Wire.{Wire}
use Rattle.cell_word.specs.Words as words
use Rattle.cell_word.specs.Words.{extended_at}
use Rattle.net_model.specs.Valuation.{Valuation, read, read_all}
use Rattle.map_gates.specs.Gates.{bit_at}

module _ (p : Path) (wires : List Wire) (w : Valuation) where
  -- a bit of a signal, taken before or after it is read
  pub at_read : (bits : List SigBit) (at : ℕ) (d : SigBit) → slice_index_or (read_all w (points p wires bits)) at (read w (point p wires d)) ≡ read w (point p wires (slice_index_or bits at d))
  at_read [] at d = refl
  at_read (b ∷ bits) zero d = refl
  at_read (b ∷ bits) (suc at) d = at_read bits at d

  top_read : (bits : List SigBit) → top_of (read_all w (points p wires bits)) ≡ read w (point p wires (fill_of bits true))
  top_read [] = refl
  top_read (b ∷ []) = refl
  top_read (b ∷ c ∷ bits) =
      let e : length (b ∷ c ∷ bits) - 1 ≡ suc (length (c ∷ bits) - 1) = omega arith in
      top_read (c ∷ bits) ∙ ap (λ n. read w (point p wires (unwrap_or (slice_get (b ∷ c ∷ bits) n) (Fixed S0)))) (sym e)

  fill_read : (signed : Bool) (bits : List SigBit) → words.fill_of signed (read_all w (points p wires bits)) ≡ read w (point p wires (fill_of bits signed))
  fill_read true bits = top_read bits
  fill_read false bits = refl

  -- the bit of an operand has what the operand's word has, as far as it is extended
  pub operand_read : (signed : Bool) (bits : List SigBit) (at : ℕ) → extended_at signed (read_all w (points p wires bits)) at ≡ read w (point p wires (bit_at signed bits at))
  operand_read signed bits at =
      ap (slice_index_or (read_all w (points p wires bits)) at) (fill_read signed bits) ∙ at_read bits at (fill_of bits signed)

  -- a bit of a word is below the bit of the operand
  pub operand_below : (bits : List SigBit) (at : ℕ) → Below (slice_index_or (read_all w (points p wires bits)) at X) (read w (point p wires (bit_at false bits at)))
  operand_below [] at = tt
  operand_below (b ∷ bits) zero = Below_refl (read w (point p wires b))
  operand_below (b ∷ bits) (suc at) = operand_below bits at
