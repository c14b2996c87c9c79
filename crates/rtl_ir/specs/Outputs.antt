-- Which pins a cell drives.
use Rattle.std.specs.Prelude.{ℕ, Bool, true, false, List, Option, Some, None}
use Rattle.std.specs.Option.{option_map_or}
use Rattle.std.specs.Str.{bytes_eq}
use Rattle.cell_types.specs.declared.kind.CellKind.{CellKind}
use Rattle.cell_types.specs.declared.kind.CellKind.TheVariants as Cell
use Rattle.cell_types.specs.declared.memory.MemoryKind.{MemoryKind}
use Rattle.cell_types.specs.declared.memory.MemoryKind.TheVariants.{Memrd, MemrdV2, MemwrV2, Meminit, MeminitV2}
use Rattle.cell_types.specs.declared.pin_name.PinName.{PinName}
use Rattle.cell_types.specs.declared.pin_name.PinName.TheVariants.{Y, Q, Data}
use Rattle.cell_types.specs.PinName.{pin_text}
use Rattle.rtl_ir.specs.declared.ports.PortLine.{PortLine}
use Rattle.rtl_ir.specs.declared.wire.Role.{Role}
use Rattle.rtl_ir.specs.declared.wire.Role.TheVariants.{Inner, Input, Output, Inout}
use Rattle.rtl_ir.specs.Types.{CellType, Library, Instance, Unsupported, Unknown, port_named}

-- a memory cell gives the word that it reads
abbrev pub memory_output : MemoryKind → Option PinName
memory_output Memrd = Some Data
memory_output MemrdV2 = Some Data
memory_output MemwrV2 = None
memory_output Meminit = None
memory_output MeminitV2 = None

-- the pin of a cell of the library that it drives
abbrev pub output_pin : CellKind → Option PinName
output_pin (Cell.Word kind) = Some Y
output_pin (Cell.Gate kind) = Some Y
output_pin (Cell.Storage kind) = Some Q
output_pin (Cell.StorageGate gate) = Some Q
output_pin (Cell.Memory kind) = memory_output kind

-- an output port drives what it is connected to; a port of both directions drives nothing
abbrev pub is_output : Role → Bool
is_output Inner = false
is_output Input = false
is_output Output = true
is_output Inout = false

-- a cell of this type drives its pin of this name
abbrev pub drives_pin : CellType → List ℕ → Bool
drives_pin (Library kind) name = option_map_or (λ pin. bytes_eq name (pin_text pin)) (output_pin kind) false
drives_pin (Instance ports) name = option_map_or (λ (port : PortLine). is_output port.role) (port_named ports name) false
drives_pin Unsupported name = false
drives_pin Unknown name = false
