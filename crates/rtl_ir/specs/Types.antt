-- What the type of a cell names: a cell of the library, or a module of which the cell is an instance.
use Rattle.std.specs.Prelude.{ℕ, Bool, true, false, List, Option, Some, None, map, filter, find, option_map}
use Rattle.std.specs.Str.{bytes_eq}
use Rattle.cell_types.specs.declared.kind.CellKind.{CellKind}
use Rattle.cell_types.specs.Kind.{kind_of}
use Rattle.cell_types.specs.Unsupported.{is_unsupported}
use Rattle.rtl_ir.specs.declared.module.Module.{Module}
use Rattle.rtl_ir.specs.declared.ports.ModulePorts.{ModulePorts}
use Rattle.rtl_ir.specs.declared.ports.PortLine.{PortLine}
use Rattle.rtl_ir.specs.declared.wire.Wire.{Wire}
use Rattle.rtl_ir.specs.Ports.{is_port, line_of}

-- the ports of each module that may be instantiated, by the module's name
abbrev pub Ports : Type 0
Ports = List ℕ → Option (List PortLine)

-- the ports among the wires, in their order
abbrev pub port_lines : List Wire → List PortLine
port_lines wires = map line_of (filter (λ w. is_port w.role) wires)

-- the module of this name, the first where there are several
abbrev pub module_named : List Module → List ℕ → Option Module
module_named modules id = find (λ m. bytes_eq m.id id) modules

-- the ports of the modules of a design
abbrev pub design_ports : List Module → Ports
design_ports modules id = option_map (λ m. port_lines m.wires) (module_named modules id)

-- the ports that a table lists
abbrev pub table_ports : List ModulePorts → Ports
table_ports tables id = option_map (λ t. t.ports) (find (λ t. bytes_eq t.id id) tables)

-- the port of this name
abbrev pub port_named : List PortLine → List ℕ → Option PortLine
port_named ports name = find (λ p. bytes_eq p.name name) ports

-- what a type names
pub data CellType : Type 0 where
  Library : CellKind → CellType
  Instance : List PortLine → CellType
  Unsupported : CellType
  Unknown : CellType

-- of the accepted cells, the modules and the unsupported cells the first that has the name
abbrev pub type_by : Option CellKind → Option (List PortLine) → Bool → CellType
type_by (Some kind) ports unsupported = Library kind
type_by None (Some ports) unsupported = Instance ports
type_by None None true = Unsupported
type_by None None false = Unknown

-- what a name of a type names
unfoldable pub cell_type : Ports → List ℕ → CellType
cell_type ports name = type_by (kind_of name) (ports name) (is_unsupported name)
