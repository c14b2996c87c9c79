-- The modules that a module instantiates, and those that it reaches through instances.
use Rattle.std.specs.Prelude.{ℕ, zero, suc, Bool, false, ◌||◌, List, [], filter, length, map, if◌then◌else◌}
use Rattle.std.specs.List.{list_any}
use Rattle.std.specs.Str.{bytes_eq}
use Rattle.rtl_ir.specs.declared.cell.Cell.{Cell}
use Rattle.rtl_ir.specs.declared.module.Module.{Module}
use Rattle.rtl_ir.specs.declared.ports.PortTable.{PortTable}
use Rattle.rtl_ir.specs.Ports.{in_name_order, instances_of, ports_by_module}
use Rattle.script_core.specs.declared.word.Word.{Word}
use Rattle.script_core.specs.Words.{flattens}

-- the ports of the modules of a list that a module instantiates
abbrev pub table_of : List Module → Module → PortTable
table_of modules m = record { modules = map ports_by_module (instances_of modules m.cells) }

-- cells lead to the module of this name, through at most so many modules: they have an instance of it, or of a module whose cells
-- lead there
abbrev pub leads_to : ℕ → List Module → List Cell → List ℕ → Bool
leads_to zero modules cells id = false
leads_to (suc steps) modules cells id =
    list_any (λ (m : Module). bytes_eq m.id id || leads_to steps modules m.cells id) (instances_of modules cells)

-- the modules of a list that cells lead to, in order of their names; no chain without a module in itself is longer than the list
abbrev pub reached_of : List Module → List Cell → List Module
reached_of modules cells = in_name_order (filter (λ (m : Module). leads_to (length modules) modules cells m.id) modules)

-- the modules over which a script is folded beside that of these cells: those that they lead to where it flattens, else none
abbrev pub below_of : List Word → List Module → List Cell → List Module
below_of script modules cells = if flattens script then reached_of modules cells else []
