-- Which modules of an edited design are looked at again, and their faults.
use Rattle.std.specs.Prelude.{◌≡◌, ◌⊎◌, ◌||◌, ℕ, Bool, true, false, List, ◌++◌, Option, Some, filter, flat_map, option_map, slice_get}
use Rattle.std.specs.List.{list_any}
use Rattle.rtl_sig.specs.Names.{has_name}
use Rattle.rtl_ir.specs.declared.cell.Cell.{Cell}
use Rattle.rtl_ir.specs.declared.module.Module.{Module}
use Rattle.rtl_ir.specs.declared.ports.PortLine.{PortLine}
use Rattle.rtl_ir.specs.Fault.{Fault}
use Rattle.rtl_ir.specs.Faults.{module_faults}
use Rattle.rtl_ir.specs.Faults.Recursion.{recursion_faults}
use Rattle.rtl_ir.specs.Scope.{everything}
use Rattle.rtl_ir.specs.Types.{Ports, design_ports, port_lines}
use Rattle.net_model.specs.Lists.{In}
use Rattle.rtl_check.specs.declared.due.Due.{Due}

-- one of the cells has a type of these names
abbrev pub sees : List (List ℕ) → List Cell → Bool
sees names cells = list_any (λ (c : Cell). has_name names c.kind_name) cells

-- a module is due: it has the name of an edited one, or it sees a name whose ports changed
abbrev pub is_due : Due → Module → Bool
is_due due m = has_name due.edited m.id || sees due.moved m.cells

-- a design comes from another: each of its modules that has not the name of an edited one stood there before, and each name but
-- those that moved has the ports that it had
pub record IsEdited (before after : List Module) (due : Due) : Type 0 where
  pub stayed : (m : Module) → In m after → has_name due.edited m.id ≡ false → In m before
  pub ports : (name : List ℕ) → has_name due.moved name ≡ false → design_ports after name ≡ design_ports before name

-- the faults of the modules that are due, in order
abbrev pub faults_of_due : Due → List Module → List Fault
faults_of_due due modules = flat_map (module_faults everything (design_ports modules)) (filter (is_due due) modules)

-- the faults of the modules that are due, and then those of recursion
abbrev pub due_faults : Due → List Module → List Fault
due_faults due modules = faults_of_due due modules ++ recursion_faults modules

-- the ports of the module at a place
abbrev pub ports_at : List Module → ℕ → Option (List PortLine)
ports_at modules at = option_map (λ (m : Module). port_lines m.wires) (slice_get modules at)

-- a module has the ports that its name has
abbrev pub KeepsPorts : Ports → Module → Type 0
KeepsPorts ports m = ports m.id ≡ Some (port_lines m.wires)

-- an edited module is noted: its name is, and it keeps the ports of its name, or that it moves them is noted
pub record IsNoted (ports : Ports) (due : Due) (m : Module) : Type 0 where
  pub edited : has_name due.edited m.id ≡ true
  pub moved : (has_name due.moved m.id ≡ true) ⊎ KeepsPorts ports m
