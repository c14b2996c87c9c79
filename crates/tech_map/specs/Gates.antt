-- Modules of gates and instances alone.
use Rattle.std.specs.Prelude.{◌≡◌, Bool, true, Option, Some, None}
use Rattle.cell_types.specs.declared.kind.CellKind.{CellKind}
use Rattle.rtl_ir.specs.Flat.Cell.{cell_kind}
use Rattle.rtl_ir.specs.declared.cell.Cell.{Cell}
use Rattle.rtl_ir.specs.declared.module.Module.{Module}
use Rattle.net_model.specs.Gates.{is_gate}
use Rattle.net_model.specs.Within.{Each}

-- a cell of this kind is a gate, and one of no kind of the library an instance
abbrev pub is_gate_or_instance : Option CellKind → Bool
is_gate_or_instance None = true
is_gate_or_instance (Some kind) = is_gate (Some kind)

-- the same of a cell
abbrev pub IsGateOrInstance : Cell → Type 0
IsGateOrInstance c = is_gate_or_instance (cell_kind c) ≡ true

-- each cell of a module is a gate or an instance
abbrev pub HasGatesAlone : Module → Type 0
HasGatesAlone m = Each IsGateOrInstance m.cells
