-- A module with all its instances, and the flat netlist.
use Rattle.std.specs.Prelude.{ℕ, zero, suc, Bool, not, List, [], ◌∷◌, ◌++◌, length, map, filter, Option, Some, None, cond}
use Rattle.std.specs.List.{list_any}
use Rattle.std.specs.Str.{bytes_eq}
use Rattle.rtl_ir.specs.declared.module.Design.{Design}
use Rattle.rtl_ir.specs.declared.module.Module.{Module}
use Rattle.rtl_ir.specs.declared.ports.ModulePorts.{ModulePorts}
use Rattle.rtl_ir.specs.declared.ports.PortLine.{PortLine}
use Rattle.rtl_ir.specs.declared.ports.PortTable.{PortTable}
use Rattle.rtl_ir.specs.declared.wire.Role.{Role}
use Rattle.rtl_ir.specs.declared.wire.Role.TheVariants.{Inner, Input, Output, Inout}
use Rattle.rtl_ir.specs.declared.wire.Wire.{Wire}
use Rattle.rtl_ir.specs.Flat.Cell.{Ports, instances}
use Rattle.rtl_ir.specs.Flat.Driver.{Nothing, Given, Driven}
use Rattle.rtl_ir.specs.Flat.Place.{Frame, frame, Path, Place, place_same}
use Rattle.rtl_ir.specs.Flat.Point.{Point, Constant, At, wire_points}
use Rattle.rtl_ir.specs.Flat.Rows.{rows_of}
use Rattle.rtl_ir.specs.Ports.{ports_of}

-- the module of this name
abbrev pub named : List Module → List ℕ → Option Module
named [] id = None
named (m ∷ modules) id = cond (bytes_eq m.id id) (Some m) (named modules id)

-- the ports of a module that may be there
abbrev pub ports_or_none : Option Module → List PortLine
ports_or_none None = []
ports_or_none (Some m) = ports_of m.wires

-- the ports of the modules of a design
abbrev pub design_ports : Design → Ports
design_ports d id = ports_or_none (named d.modules id)

-- the ports of the module of this name in a list
abbrev pub listed_ports : List ModulePorts → Ports
listed_ports [] id = []
listed_ports (m ∷ modules) id = cond (bytes_eq m.id id) m.ports (listed_ports modules id)

-- the ports of the modules of a table
abbrev pub table_ports : PortTable → Ports
table_ports table = listed_ports table.modules

-- what is said of the module of an instance, at the instance's path, where the design has the module
abbrev pub in_module : {A : Type 0} → (Path → Module → List A) → Path → Option Module → List A
in_module inner p None = []
in_module inner p (Some m) = inner p m

-- the same of each of these instances in a module at this path
abbrev pub in_instances : {A : Type 0} → Design → (Path → Module → List A) → Path → List Frame → List A
in_instances d inner p [] = []
in_instances d inner p (f ∷ frames) =
    in_module inner (f ∷ p) (named d.modules f.module_name) ++ in_instances d inner p frames

-- what is said of a module, of its instances, and so on, so many levels deep
abbrev pub in_tree : {A : Type 0} → Design → (Path → Module → List A) → ℕ → Path → Module → List A
in_tree d own zero p m = []
in_tree d own (suc depth) p m = own p m ++ in_instances d (in_tree d own depth) p (instances m.cells)

-- the rows of a module with all its instances; no module stands in itself, so there are no more levels than modules
abbrev pub tree_rows : Design → Path → Module → List Driven
tree_rows d p m = in_tree d (rows_of (design_ports d)) (length d.modules) p m

-- the bits of the wires of a module
abbrev pub wires_points : Path → List Wire → List Point
wires_points p [] = []
wires_points p (w ∷ wires) = wire_points p w.name 0 w.width ++ wires_points p wires

-- the same of a module with all its instances
abbrev pub tree_points : Design → Path → Module → List Point
tree_points d p m = in_tree d (λ q n. wires_points q n.wires) (length d.modules) p m

-- where the module that is run stands
abbrev pub root : Module → Path
root m = frame [] m.id ∷ []

-- these points, where the port has the role that is asked for
abbrev pub if_role : Role → Role → List Point → List Point
if_role Inner Inner ps = ps
if_role Input Input ps = ps
if_role Output Output ps = ps
if_role Inout Inout ps = ps
if_role asked role ps = []

-- the bits of the ports of a role, in order
abbrev pub role_points : Role → Path → List PortLine → List Point
role_points role p [] = []
role_points role p (port ∷ ports) =
    if_role role port.role (wire_points p port.name 0 port.width) ++ role_points role p ports

-- the places among points
abbrev pub places : List Point → List Place
places [] = []
places (At q ∷ ps) = q ∷ places ps
places (Constant b ∷ ps) = places ps

-- the inputs of the module that is run, from this place of the input vector on
abbrev pub given_rows : List Place → ℕ → List Driven
given_rows [] at = []
given_rows (q ∷ qs) at = record { place = q; driver = Given at } ∷ given_rows qs (suc at)

-- the bits that have a driver: the inputs, and the rows of the module with all its instances
abbrev pub driven_rows : Design → Module → List Driven
driven_rows d m =
    given_rows (places (role_points Input (root m) (ports_of m.wires))) 0 ++ tree_rows d (root m) m

-- whether one of the rows drives the bit
abbrev pub drives : List Driven → Place → Bool
drives rows q = list_any (λ row. place_same row.place q) rows

-- a bit without a driver
abbrev pub undriven : Place → Driven
undriven q = record { place = q; driver = Nothing }

-- the bits of the wires that none of the rows drives
abbrev pub undriven_rows : List Driven → List Place → List Driven
undriven_rows rows qs = map undriven (filter (λ q. not (drives rows q)) qs)

-- the flat netlist of a module of a design
abbrev pub flat : Design → Module → List Driven
flat d m = driven_rows d m ++ undriven_rows (driven_rows d m) (places (tree_points d (root m) m))

-- the output bits of the module that is run, in order
abbrev pub output_places : Module → List Place
output_places m = places (role_points Output (root m) (ports_of m.wires))
