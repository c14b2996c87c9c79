-- The faults of cells: of their types, parameters and pins.
use Rattle.std.specs.Prelude.{Bool, true, false, not, ◌&&◌, ◌||◌, ◌==◌, List, [], ◌∷◌, ◌++◌, length, map, Option, Some, None}
use Rattle.std.specs.List.{list_any}
use Rattle.std.specs.Option.{option_map_or, is_none}
use Rattle.cell_types.specs.declared.fault.CellFault.{CellFault}
use Rattle.cell_types.specs.declared.fault.CellFault.TheVariants as cell
use Rattle.cell_types.specs.declared.given.PinWidth.{PinWidth}
use Rattle.cell_types.specs.declared.kind.CellKind.{CellKind}
use Rattle.cell_types.specs.declared.kind.CellKind.TheVariants as Cells
use Rattle.cell_types.specs.Fault.{fault_of}
use Rattle.rtl_ir.specs.declared.cell.Cell.{Cell}
use Rattle.rtl_ir.specs.declared.cell.Pin.{Pin}
use Rattle.rtl_ir.specs.declared.module.Module.{Module}
use Rattle.rtl_ir.specs.declared.ports.PortLine.{PortLine}
use Rattle.rtl_ir.specs.Fault.{Fault, Spot, Width, UnknownCell, UnsupportedCell, BadParameterOrPort, TooWide, BadPort, BadMemory, spot, fault_if}
use Rattle.rtl_ir.specs.Faults.MemoryCells.{is_bad_memory_cell}
use Rattle.rtl_ir.specs.Scope.{Scope}
use Rattle.rtl_ir.specs.Outputs.{drives_pin}
use Rattle.rtl_ir.specs.Parameters.{given_params}
use Rattle.rtl_ir.specs.Rules.{has_item}
use Rattle.rtl_ir.specs.Signals.{has_constant}
use Rattle.rtl_ir.specs.Types.{Ports, CellType, Library, Instance, Unsupported, Unknown, cell_type, port_named}

-- the pins of a cell by their widths
abbrev pub pin_widths : List Pin → List PinWidth
pin_widths pins = map (λ (p : Pin). record { name = p.name; width = length p.sig }) pins

-- the first fault of a cell's parameters and pins
unfoldable pub misfit : CellKind → Cell → Option CellFault
misfit kind c = fault_of kind (given_params c.params) (pin_widths c.pins)

-- the fault of a cell's parameters and pins, as a fault of the design
abbrev pub shape_fault : Spot → Option CellFault → List Fault
shape_fault here None = []
shape_fault here (Some cell.Bad) = BadParameterOrPort here ∷ []
shape_fault here (Some cell.Wide) = TooWide here ∷ []
shape_fault here (Some cell.Width) = Width here ∷ []
shape_fault here (Some cell.Memory) = []

-- a pin that the cell drives is connected to a constant
abbrev pub has_constant_output : CellType → List Pin → Bool
has_constant_output type pins = list_any (λ (p : Pin). drives_pin type p.name && has_constant p.sig) pins

-- the fault of a cell that drives a constant
abbrev pub output_faults : Spot → CellType → List Pin → List Fault
output_faults here type pins = fault_if (has_constant_output type pins) (BadPort here)

-- a pin of an instance is no port of its module
abbrev pub lacks_port : List PortLine → Pin → Bool
lacks_port ports p = is_none (port_named ports p.name)

-- a pin of an instance has another width than the port; one without bits is a port that is not connected
abbrev pub has_other_width : List PortLine → Pin → Bool
has_other_width ports p =
    has_item p.sig && option_map_or (λ (port : PortLine). not (length p.sig == port.width)) (port_named ports p.name) false

-- a cell of a memory
abbrev pub is_memory_kind : CellKind → Bool
is_memory_kind (Cells.Word kind) = false
is_memory_kind (Cells.Gate kind) = false
is_memory_kind (Cells.Storage kind) = false
is_memory_kind (Cells.StorageGate gate) = false
is_memory_kind (Cells.Memory kind) = true

-- the fault of a memory's cell behind these cells of the module, where clocks are compared or not
abbrev pub memory_faults : Bool → Module → List Cell → Cell → CellKind → List Fault
memory_faults clocks m earlier c (Cells.Memory kind) =
    fault_if (is_bad_memory_cell clocks m earlier c kind) (BadMemory (spot m.id c.name))
memory_faults clocks m earlier c kind = []

-- the faults of a cell by what its type names, behind these cells of the module
abbrev pub faults_by_type : Scope → Module → List Cell → Cell → CellType → List Fault
faults_by_type scope m earlier c (Library kind) =
    fault_if (is_memory_kind kind && not scope.memories) (UnsupportedCell (spot m.id c.name))
    ++ shape_fault (spot m.id c.name) (misfit kind c)
    ++ output_faults (spot m.id c.name) (Library kind) c.pins
    ++ memory_faults scope.clocks m earlier c kind
faults_by_type scope m earlier c (Instance ports) =
    fault_if (has_item c.params || list_any (lacks_port ports) c.pins) (BadParameterOrPort (spot m.id c.name))
    ++ fault_if (list_any (has_other_width ports) c.pins) (Width (spot m.id c.name))
    ++ output_faults (spot m.id c.name) (Instance ports) c.pins
faults_by_type scope m earlier c Unsupported = UnsupportedCell (spot m.id c.name) ∷ []
faults_by_type scope m earlier c Unknown = UnknownCell (spot m.id c.name) ∷ []

-- the faults of cells, behind these cells of the module
abbrev pub cell_faults : Scope → Ports → Module → List Cell → List Cell → List Fault
cell_faults scope ports m earlier [] = []
cell_faults scope ports m earlier (c ∷ cs) =
    faults_by_type scope m earlier c (cell_type ports c.kind_name) ++ cell_faults scope ports m (earlier ++ c ∷ []) cs
