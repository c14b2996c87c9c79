-- Cells with the right parameters and pins.
use Rattle.std.specs.Prelude.{◌≡◌, None}
use Rattle.std.specs.List.{AllByRecursion}
use Rattle.rtl_ir.specs.declared.cell.Cell.{Cell}
use Rattle.rtl_ir.specs.declared.module.Module.{Module}
use Rattle.rtl_ir.specs.Faults.Cells.{misfit}
use Rattle.rtl_ir.specs.Types.{Ports, CellType, Library, Instance, Unsupported, Unknown, cell_type}

-- the parameters and pins of a cell of the library are without fault
abbrev pub DoesFit : Cell → CellType → Type 0
DoesFit c (Library kind) = misfit kind c ≡ None
DoesFit c (Instance ports) = Unit {0}
DoesFit c Unsupported = Unit {0}
DoesFit c Unknown = Unit {0}

-- the same of each cell of a module
abbrev pub DoCellsFit : Ports → Module → Type 0
DoCellsFit ports m = AllByRecursion (λ (c : Cell). DoesFit c (cell_type ports c.kind_name)) m.cells
