-- Cones in a module: the gates that give a bit of it.
use Rattle.std.specs.Prelude.{◌≡◌, List, [], ◌∷◌, Some}
use Rattle.cell_types.specs.PinName.{pin_text}
use Rattle.cell_types.specs.declared.gate.GateKind.{GateKind}
use Rattle.cell_types.specs.declared.kind.CellKind.TheVariants.{Gate}
use Rattle.cell_types.specs.declared.pin_name.PinName.TheVariants.{A, B, S, Y}
use Rattle.rtl_sig.specs.declared.sig.SigBit.{SigBit}
use Rattle.rtl_sig.specs.declared.sig.SigBit.TheVariants.{Fixed as Constant, Wire as OnWire}
use Rattle.rtl_sig.specs.declared.sig.WireBit.{WireBit}
use Rattle.rtl_ir.specs.Flat.Cell.{cell_kind}
use Rattle.rtl_ir.specs.Parameters.{signal_at}
use Rattle.rtl_ir.specs.declared.cell.Cell.{Cell}
use Rattle.rtl_ir.specs.declared.module.Link.{Link}
use Rattle.net_model.specs.Lists.{In}
use Rattle.gate_cones.specs.declared.cone.Cone.{Cone}
use Rattle.gate_cones.specs.declared.cone.Cone.TheVariants.{At, Fixed, One', Two', Three'}
use Rattle.gate_cones.specs.declared.row.Leaf.{Leaf}

-- the bits of a module that stand at the leaves
abbrev pub Leaves : Type 0
Leaves = Leaf → SigBit

-- a cell is a gate of a kind that reads these signals, at its pins A, B and S
pub record IsGateOf (kind : GateKind) (c : Cell) (first second third : List SigBit) : Type 0 where
  pub own : cell_kind c ≡ Some (Gate kind)
  pub a : signal_at c.pins (pin_text A) ≡ first
  pub b : signal_at c.pins (pin_text B) ≡ second
  pub s : signal_at c.pins (pin_text S) ≡ third

-- and drives this bit
pub record Drives (c : Cell) (y : SigBit) : Type 0 where
  pub bit : WireBit
  pub is : y ≡ OnWire bit
  pub output : signal_at c.pins (pin_text Y) ≡ OnWire bit ∷ []

-- cells give a cone at a bit: at a leaf its bit, at a constant itself, and of a gate the bit that it drives, which is one
-- of the cells and reads bits at which they give the cones of its pins
abbrev pub Give : List Cell → Leaves → Cone → SigBit → Type 0
Give cells leaves (At leaf) y = y ≡ leaves leaf
Give cells leaves (Fixed b) y = y ≡ Constant b
Give cells leaves (One' kind p a) y =
    (c : Cell) × In c cells × Drives c y
    × (i : SigBit) × IsGateOf kind c (i ∷ []) [] [] × Give cells leaves a i
Give cells leaves (Two' kind p a q b) y =
    (c : Cell) × In c cells × Drives c y
    × (i : SigBit) × (j : SigBit) × IsGateOf kind c (i ∷ []) (j ∷ []) []
    × Give cells leaves a i × Give cells leaves b j
Give cells leaves (Three' kind p a q b r s) y =
    (c : Cell) × In c cells × Drives c y
    × (i : SigBit) × (j : SigBit) × (k : SigBit) × IsGateOf kind c (i ∷ []) (j ∷ []) (k ∷ [])
    × Give cells leaves a i × Give cells leaves b j × Give cells leaves s k

-- a cell is the gate at the root of a cone whose other gates are among these cells
abbrev pub IsRoot : List Cell → Leaves → Cone → Cell → Type 0
IsRoot cells leaves (At leaf) c = ⊥
IsRoot cells leaves (Fixed b) c = ⊥
IsRoot cells leaves (One' kind p a) c =
    (i : SigBit) × IsGateOf kind c (i ∷ []) [] [] × Give cells leaves a i
IsRoot cells leaves (Two' kind p a q b) c =
    (i : SigBit) × (j : SigBit) × IsGateOf kind c (i ∷ []) (j ∷ []) []
    × Give cells leaves a i × Give cells leaves b j
IsRoot cells leaves (Three' kind p a q b r s) c =
    (i : SigBit) × (j : SigBit) × (k : SigBit) × IsGateOf kind c (i ∷ []) (j ∷ []) (k ∷ [])
    × Give cells leaves a i × Give cells leaves b j × Give cells leaves s k

-- the connection of the output of a gate to a bit
abbrev pub output_to : Cell → SigBit → Link
output_to c y = record { left = signal_at c.pins (pin_text Y); right = y ∷ [] }
