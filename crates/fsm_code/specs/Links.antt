-- Modules to which connections are added.
use Rattle.std.specs.Prelude.{List, ◌++◌}
use Rattle.rtl_ir.specs.Build.{Building}
use Rattle.rtl_ir.specs.declared.cell.Cell.{Cell}
use Rattle.rtl_ir.specs.declared.module.Link.{Link}
use Rattle.rtl_ir.specs.declared.module.Module.{Module}

-- a module with these connections
abbrev pub linked : Building → List Link → Building
linked b links = record b { body = record b.body { links = links } }

-- what was there already, before what is given next
abbrev pub behind : List Cell → List Cell × Building → List Cell × Building
behind cells r = (cells ++ r.0, r.1)

-- the module with the cells that are given
abbrev pub with_cells : List Cell × Building → Module
with_cells r = record r.1.body { cells = r.0 }
