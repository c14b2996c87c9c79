-- A word: its write chain, and the flip-flops behind it.
use Rattle.std.proofs.Common.{◌≡◌, ℕ, Bool, true, false, List, [], ◌∷◌, Some, if◌then◌else◌, refl, subst}
use Rattle.std.specs.Prelude.{◌==◌, codes, slice_get}
use Rattle.cell_gate.specs.Control.{pick_of}
use Rattle.cell_types.specs.declared.kind.CellKind.TheVariants.{Storage}
use Rattle.cell_types.specs.declared.level.Level.{Level}
use Rattle.cell_types.specs.declared.level.Level.TheVariants.{Low, High}
use Rattle.cell_types.specs.declared.storage.StorageKind.TheVariants.{Dff}
use Rattle.rtl_bits.specs.Knowledge.{Below}
use Rattle.rtl_bits.specs.Numbers.{number_of}
use Rattle.rtl_bits.specs.declared.bit.Bit.{Bit}
use Rattle.rtl_sig.specs.declared.sig.SigBit.{SigBit}
use Rattle.rtl_sig.specs.declared.sig.SigBit.TheVariants.{Wire as OnWire}
use Rattle.rtl_sig.specs.declared.sig.WireBit.{WireBit}
use Rattle.rtl_ir.specs.Build.{integer_param, pin_of}
use Rattle.rtl_ir.specs.Constants.{low_bits}
use Rattle.rtl_ir.specs.Flat.Cell.{Ports, cell_kind, cell_shape}
use Rattle.rtl_ir.specs.Flat.Place.{Path, Place}
use Rattle.rtl_ir.specs.Flat.Point.{bit_place, point, point_at, points}
use Rattle.rtl_ir.specs.declared.cell.Cell.{Cell}
use Rattle.rtl_ir.specs.declared.wire.Wire.{Wire}
use Rattle.net_model.specs.Order.{Manner}
use Rattle.net_model.specs.Run.{Time, Start, Step}
use Rattle.net_model.specs.Valuation.{Valuation, read}
use Rattle.net_model.specs.Value.{edge_at}
use Rattle.net_model.proofs.Released.{no_control}
use Rattle.pass_laws.proofs.Driving.{own_driver, own_in, row_of}
use Rattle.build_laws.proofs.Moments.{IsCellMet, Moment}

-- the level after the edge of a clock
abbrev pub level_of : Bool → Level
level_of rising = if rising then High else Low

abbrev pub dff_made : List ℕ → ℕ → Bool → SigBit → List SigBit → List SigBit → Cell
dff_made name width rising clock d q = record {
  kind_name = codes "$dff";
  name = name;
  params = integer_param (codes "\\WIDTH") width ∷ integer_param (codes "\\CLK_POLARITY") (if rising then 1 else 0) ∷ [];
  pins = pin_of (codes "\\CLK") (clock ∷ []) ∷ pin_of (codes "\\D") d ∷ pin_of (codes "\\Q") q ∷ [];
  attributes = [];
}

level_is : (rising : Bool) → (if number_of (low_bits (if rising then 1 else 0) 32) == 0 then Low else High) ≡ level_of rising
unfolding low_bits
level_is true = refl
level_is false = refl

module _ (start : SigBit → Bit) (ports : Ports) (p : Path) (wires : List Wire) (w : Valuation) where
  -- the module there at a time
  abbrev pub moment_of : Time Place → Moment
  moment_of t = record { start = start; ports = ports; path = p; wires = wires; time = t; has = w }

  -- a flip-flop starts with its start value
  pub dff_starts : (name : List ℕ) (width : ℕ) (rising : Bool) (clock : SigBit) (d q : List SigBit) → IsCellMet (moment_of Start) (dff_made name width rising clock d q) → (k : ℕ) (b : WireBit) → slice_get q k ≡ Some (OnWire b) → Below (start (OnWire b)) (read w (point p wires (OnWire b)))
  unfolding cell_kind cell_shape
  dff_starts name width rising clock d q met k b e =
      let c : Cell = dff_made name width rising clock d q in
      met (row_of p wires b (own_driver start p wires c (Storage Dff) k b)) (own_in p wires start c (Storage Dff) refl k b e)

  -- and takes its data at an edge
  pub dff_gives : (before : Valuation) (inputs : List Bit) (manner : Manner) (name : List ℕ) (width : ℕ) (rising : Bool) (clock : SigBit) (d q : List SigBit) → IsCellMet (moment_of (Step before inputs manner)) (dff_made name width rising clock d q) → (k : ℕ) (b : WireBit) → slice_get q k ≡ Some (OnWire b)
      → Below (pick_of (edge_at before w manner.first (point p wires clock) (level_of rising)) (read before (point_at (points p wires d) k)) (before (bit_place p wires b))) (read w (point p wires (OnWire b)))
  unfolding cell_kind cell_shape
  dff_gives before inputs manner name width rising clock d q met k b e =
      let c : Cell = dff_made name width rising clock d q in
      let here = subst (λ z. Below z (read w (point p wires (OnWire b)))) (no_control manner.order Dff _ _ _ _ manner.first tt) (met (row_of p wires b (own_driver start p wires c (Storage Dff) k b)) (own_in p wires start c (Storage Dff) refl k b e)) in
      subst (λ l. Below (pick_of (edge_at before w manner.first (point p wires clock) l) (read before (point_at (points p wires d) k)) (before (bit_place p wires b))) (read w (point p wires (OnWire b)))) (level_is rising) here
