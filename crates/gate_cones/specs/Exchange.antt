-- What is owed where the gate at the root of a cone gives way to another cone.
use Rattle.std.specs.Prelude.{◌≡◌, ℕ, List}
use Rattle.cell_types.specs.PinName.{pin_text}
use Rattle.cell_types.specs.declared.pin_name.PinName.TheVariants.{Y}
use Rattle.rtl_sig.specs.declared.sig.SigBit.{SigBit}
use Rattle.rtl_ir.specs.Parameters.{signal_at}
use Rattle.rtl_ir.specs.Types.{Ports}
use Rattle.rtl_ir.specs.declared.cell.Cell.{Cell}
use Rattle.net_model.specs.Within.{BitIn, CellIn}
use Rattle.pass_laws.specs.Replaces.{IsFaultless}
use Rattle.gate_cones.specs.declared.cone.Cone.{Cone}
use Rattle.gate_cones.specs.Below.{IsBelow}
use Rattle.gate_cones.specs.Netlist.{Drives, Give, IsRoot, Leaves}

-- another gate with the same output comes in the place of the root, in a module of so many wires. The other gates of the first
-- cone are among the cells that are there before, those of the second among the cells that are there after; each cone may read
-- any bits, those of the other and of its own root too
pub record Exchanges (ports : Ports) (count : ℕ) (before after : List Cell) (c d : Cell) (leaves : Leaves) (first second : Cone) : Type 0 where
  pub below : IsBelow first second
  pub old : IsRoot before leaves first c
  pub new : IsRoot after leaves second d
  pub output : signal_at d.pins (pin_text Y) ≡ signal_at c.pins (pin_text Y)
  -- the gate has no faults, and names wires of the module
  pub faultless : IsFaultless ports d
  pub within : CellIn count d

-- the root goes, and its output is connected to a bit at which the other cells give the second cone
pub record Connects (count : ℕ) (cells : List Cell) (c : Cell) (leaves : Leaves) (first second : Cone) (y : SigBit) : Type 0 where
  pub below : IsBelow first second
  pub old : IsRoot cells leaves first c
  pub output : SigBit
  pub drives : Drives c output
  pub new : Give cells leaves second y
  pub within : BitIn count y
