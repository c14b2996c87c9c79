-- What is known of the output of a combinational cell.
use Rattle.std.proofs.Common.{◌≡◌, ℕ, zero, suc, ◌+◌, ◌<◌, false, List, [], ◌∷◌, length, map, inl, inr, refl, sym, ap, subst, arith}
use Rattle.std.specs.Prelude.{slice_index_or}
use Rattle.cell_types.specs.declared.shape.Shape.{Shape}
use Rattle.rtl_bits.specs.Knowledge.{Below}
use Rattle.rtl_bits.specs.declared.bit.Bit.{Bit}
use Rattle.rtl_bits.specs.declared.bit.Bit.TheVariants.{X}
use Rattle.rtl_ir.specs.Flat.Cell.{outputs}
use Rattle.rtl_ir.specs.Flat.Driver.{Driven, Worked}
use Rattle.rtl_ir.specs.Flat.Place.{Path, Place}
use Rattle.rtl_ir.specs.Flat.Point.{Point, point, points}
use Rattle.rtl_ir.specs.Signals.{has_constant}
use Rattle.rtl_ir.specs.declared.wire.Wire.{Wire}
use Rattle.rtl_sig.specs.declared.sig.SigBit.{SigBit}
use Rattle.rtl_sig.specs.declared.sig.SigBit.TheVariants as sig
use Rattle.net_model.specs.Lists.{In}
use Rattle.net_model.specs.Refine.{IsTight}
use Rattle.net_model.specs.Run.{Time}
use Rattle.net_model.specs.Valuation.{Valuation, read, read_all, read_words}
use Rattle.net_model.specs.Value.{worked_of}

module _ (p : Path) (wires : List Wire) where
  -- what a valuation has at the bits of signals of a module
  abbrev pub bit_in : Valuation → SigBit → Bit
  bit_in w b = read w (point p wires b)

  pub read_is : (w : Valuation) (bits : List SigBit) → read_all w (points p wires bits) ≡ map (bit_in w) bits
  read_is w [] = refl
  read_is w (b ∷ bits) = ap (λ z. bit_in w b ∷ z) (read_is w bits)

  module _ (t : Time Place) (w : Valuation) (shape : Shape) (inputs : List (List Point)) where
    -- a bit of the cell's value
    abbrev value : ℕ → Bit
    value at = worked_of shape.kind shape (read_words w inputs) at

    -- a bit of an output without constants is no better known than the value
    pub tight_rows : (y : List SigBit) (at k : ℕ) → has_constant y ≡ false → k < length y → ((e : Driven) → In e (outputs shape inputs (points p wires y) at) → IsTight e t w) → Below (bit_in w (slice_index_or y k (sig.Fixed X))) (value (at + k))
    tight_rows [] at k none lt h = absurd (omega arith)
    tight_rows (sig.Fixed c ∷ ys) at k none lt h = absurd (cc)
    tight_rows (sig.Wire b ∷ ys) at zero none lt h =
        let here : at + 0 ≡ at = omega arith in
        subst (λ n. Below (bit_in w (sig.Wire b)) (value n)) (sym here) (h (record { place = _; driver = Worked shape inputs at }) (inl refl))
    tight_rows (sig.Wire b ∷ ys) at (suc k) none lt h =
        let moved : suc at + k ≡ at + suc k = omega arith in
        subst (λ n. Below (bit_in w (slice_index_or ys k (sig.Fixed X))) (value n)) moved (tight_rows ys (suc at) k none (omega arith) (λ f j. h f (inr j)))
