-- Cells that have shapes.
use Rattle.std.specs.Prelude.{◌≡◌, List, Some, None}
use Rattle.cell_types.specs.declared.kind.CellKind.{CellKind}
use Rattle.rtl_ir.specs.declared.cell.Cell.{Cell}
use Rattle.rtl_ir.specs.Faults.Cells.{misfit}
use Rattle.rtl_ir.specs.Flat.Cell.{cell_kind}
use Rattle.net_model.specs.Lists.{In}

-- each of these cells that is one of the library has a shape
abbrev pub HaveShapes : List Cell → Type 0
HaveShapes cells = (c : Cell) → In c cells → (kind : CellKind) → cell_kind c ≡ Some kind → misfit kind c ≡ None
