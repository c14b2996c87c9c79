-- The ports of the modules that a module instantiates.
use Rattle.std.specs.Prelude.{ℕ, Bool, true, false, not, ◌&&◌, List, [], ◌∷◌, map, filter, slice_get, unwrap_or}
use Rattle.std.specs.Option.{option_map, is_some}
use Rattle.std.specs.Ordering.{nat_cmp, int_cmp, match_ordering}
use Rattle.std.specs.Cmp.Lexicographic.{slice_cmp}
use Rattle.std.specs.List.{list_any}
use Rattle.std.specs.Str.{bytes_eq}
use Rattle.cell_types.specs.Kind.{kind_of}
use Rattle.rtl_ir.specs.declared.cell.Cell.{Cell}
use Rattle.rtl_ir.specs.declared.module.Module.{Module}
use Rattle.rtl_ir.specs.declared.ports.ModulePorts.{ModulePorts}
use Rattle.rtl_ir.specs.declared.ports.PortLine.{PortLine}
use Rattle.rtl_ir.specs.declared.wire.Role.{Role}
use Rattle.rtl_ir.specs.declared.wire.Role.TheVariants.{Inner, Input, Output, Inout}
use Rattle.rtl_ir.specs.declared.wire.Wire.{Wire}

-- a wire of this role is a port
abbrev pub is_port : Role → Bool
is_port Inner = false
is_port Input = true
is_port Output = true
is_port Inout = true

-- the wire before the first one whose number is not less
abbrev pub place_wire : Wire → List Wire → List Wire
place_wire w [] = w ∷ []
place_wire w (v ∷ vs) = match_ordering (int_cmp w.number v.number) (w ∷ v ∷ vs) (w ∷ v ∷ vs) (v ∷ place_wire w vs)

-- the wires in order of their numbers, those of one number in their old order
abbrev pub in_number_order : List Wire → List Wire
in_number_order [] = []
in_number_order (w ∷ ws) = place_wire w (in_number_order ws)

-- what other modules see of a port
abbrev pub line_of : Wire → PortLine
line_of w = record { name = w.name; role = w.role; width = w.width; number = w.number }

-- the ports among the wires, in order of their numbers
abbrev pub ports_of : List Wire → List PortLine
ports_of wires = map line_of (in_number_order (filter (λ w. is_port w.role) wires))

-- the module before the first one whose name is not less, or in the place of the one of its name
abbrev pub place_module : Module → List Module → List Module
place_module m [] = m ∷ []
place_module m (n ∷ ns) = match_ordering (slice_cmp nat_cmp m.id n.id) (m ∷ n ∷ ns) (m ∷ ns) (n ∷ place_module m ns)

-- the modules in order of their names, of those of one name the first
abbrev pub in_name_order : List Module → List Module
in_name_order [] = []
in_name_order (m ∷ ms) = place_module m (in_name_order ms)

-- a cell of the library has this name
unfoldable pub is_library_cell : List ℕ → Bool
is_library_cell name = is_some (kind_of name)

-- one of the cells is an instance of the module of this name: no cell of the library has the name, and it is the cell's type
abbrev pub instantiates : List Cell → List ℕ → Bool
instantiates cells id = not (is_library_cell id) && list_any (λ c. bytes_eq id c.kind_name) cells

-- the modules that the cells are instances of, in order of their names
abbrev pub instances_of : List Module → List Cell → List Module
instances_of modules cells = in_name_order (filter (λ m. instantiates cells m.id) modules)

-- a module's name and ports
abbrev pub ports_by_module : Module → ModulePorts
ports_by_module m = record { id = m.id; ports = ports_of m.wires }

-- the cells of the module at a place
abbrev pub cells_at : List Module → ℕ → List Cell
cells_at modules at = unwrap_or (option_map (λ m. m.cells) (slice_get modules at)) []

-- the ports of each module that the module at a place instantiates
abbrev pub port_table_of : List Module → ℕ → List ModulePorts
port_table_of modules at = map ports_by_module (instances_of modules (cells_at modules at))
