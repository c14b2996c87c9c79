-- Fresh wires, and the gates that drive them.
use Rattle.std.specs.Prelude.{◌≡◌, List, ◌++◌, length, map, Some}
use Rattle.cell_types.specs.declared.gate.GateKind.{GateKind}
use Rattle.cell_types.specs.declared.kind.CellKind.TheVariants.{Gate}
use Rattle.rtl_ir.specs.Flat.Cell.{cell_kind}
use Rattle.rtl_ir.specs.Types.{Ports}
use Rattle.rtl_ir.specs.declared.cell.Cell.{Cell}
use Rattle.rtl_ir.specs.declared.module.Module.{Module}
use Rattle.rtl_ir.specs.declared.wire.Wire.{Wire}
use Rattle.net_model.specs.Lists.{Distinct}
use Rattle.net_model.specs.Within.{AreInner, CellIn, Each}
use Rattle.map_laws.specs.Expansion.{bits_from}
use Rattle.pass_laws.specs.Bits.{cells_bits}
use Rattle.pass_laws.specs.Replaces.{IsFaultless}
use Rattle.build_laws.specs.Rebuilds.{AreAmong}

-- a cell is a combinational gate
abbrev pub IsGateCell : Cell → Type 0
IsGateCell c = (kind : GateKind) × (cell_kind c ≡ Some (Gate kind))

-- the module with further wires and cells behind its own
abbrev pub with_gates : List Wire → List Cell → Module → Module
with_gates fresh new m = record m { wires = m.wires ++ fresh; cells = m.cells ++ new }

-- what is owed of fresh wires and of the gates that drive them
pub record AddsGates (ports : Ports) (m : Module) (fresh : List Wire) (new : List Cell) : Type 0 where
  -- the wires are no ports, and have new names
  pub inner : AreInner fresh
  pub named : Distinct (map (λ (w : Wire). w.name) (m.wires ++ fresh))
  -- the cells are gates without faults, and name wires of the new module
  pub gates : Each IsGateCell new
  pub cells : Each (IsFaultless ports) new
  pub within : Each (CellIn (length (m.wires ++ fresh))) new
  -- they drive bits of the fresh wires alone, and none twice
  pub driven : AreAmong (cells_bits ports new) (bits_from (length m.wires) fresh)
