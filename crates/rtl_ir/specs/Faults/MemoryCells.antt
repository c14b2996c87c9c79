-- The faults of cells of a memory beside those of their shapes.
use Rattle.std.specs.Prelude.{ℕ, ◌+◌, nat_abs, nat_lt, nat_le, ◌==◌, Bool, true, not, ◌&&◌, ◌||◌, List, map, Option, find}
use Rattle.std.specs.List.{list_any, list_all, range_with_len}
use Rattle.std.specs.Option.{option_map_or, option_and_then}
use Rattle.std.specs.Str.{bytes_eq}
use Rattle.rtl_bits.specs.Knowledge.{all_known}
use Rattle.rtl_bits.specs.Numbers.{number_of}
use Rattle.cell_types.specs.declared.memory.MemoryKind.{MemoryKind}
use Rattle.cell_types.specs.declared.memory.MemoryKind.TheVariants.{Memrd, MemrdV2, MemwrV2, Meminit, MeminitV2}
use Rattle.cell_types.specs.declared.param_name.ParamName.{ParamName}
use Rattle.cell_types.specs.declared.param_name.ParamName.TheVariants as Param
use Rattle.cell_types.specs.declared.pin_name.PinName.TheVariants.{Addr, Data, En}
use Rattle.cell_types.specs.Given.{number_in}
use Rattle.cell_types.specs.PinName.{pin_text}
use Rattle.cell_types.specs.Shape.{is_set}
use Rattle.rtl_ir.specs.declared.cell.Cell.{Cell}
use Rattle.rtl_ir.specs.declared.module.Link.{Link}
use Rattle.rtl_ir.specs.declared.module.Module.{Module}
use Rattle.rtl_ir.specs.declared.store.Store.{Store}
use Rattle.rtl_ir.specs.Parameters.{given_params, memory_name, signal_at}
use Rattle.rtl_ir.specs.Signals.{constant_of, is_all_constant}
use Rattle.rtl_ir.specs.WritePorts.{WritePort, cell_clocking, cell_ports, clashes}

-- the memory of this name
abbrev pub store_named : List Store → List ℕ → Option Store
store_named stores name = find (λ (s : Store). bytes_eq s.name name) stores

-- a parameter of the cell as a number
abbrev pub number_at : Cell → ParamName → ℕ
number_at c name = number_in (given_params c.params) name

-- the cell's words have another width than the memory's, or its addresses have no bit or more than 32
abbrev pub is_unlike : Store → Cell → Bool
is_unlike s c =
    not (number_at c Param.Width == s.width) || (number_at c Param.Abits == 0) || nat_lt 32 (number_at c Param.Abits)

-- a read port has a clock
abbrev pub is_clocked : Cell → Bool
is_clocked c = is_set (given_params c.params) Param.ClkEnable

-- a write port has no clock, too great a number, the number of one of these, or another clock or edge than one of them where
-- clocks are compared
abbrev pub is_bad_write : Bool → List Link → List WritePort → Cell → Bool
is_bad_write clocks links earlier c =
    not (is_clocked c)
    || nat_lt 65535 (number_at c Param.Portid)
    || list_any (λ (p : WritePort). p.number == number_at c Param.Portid) earlier
    || (clocks && clashes (cell_clocking links c) (map (λ (p : WritePort). p.clocking) earlier))

-- a number is the address of a word
abbrev pub is_address : Store → ℕ → Bool
is_address s address = nat_le (nat_abs s.offset) address && nat_lt address (nat_abs s.offset + nat_abs s.size)

-- the address of the first start word
abbrev pub first_address : Cell → ℕ
first_address c = number_of (map constant_of (signal_at c.pins (pin_text Addr)))

-- the start word of this number has a known constant as its address, which is one of a word
abbrev pub is_inside : Store → Cell → ℕ → Bool
is_inside s c k =
    all_known (map constant_of (signal_at c.pins (pin_text Addr))) && is_address s (first_address c + k)

-- the start words are constants, and inside; of no words nothing is asked
abbrev pub are_words : Store → Cell → Bool
are_words s c =
    is_all_constant (signal_at c.pins (pin_text Data)) && list_all (is_inside s c) (range_with_len 0 (number_at c Param.Words))

-- the bits of the start words that are set are told by constants
abbrev pub are_enables : Cell → Bool
are_enables c = is_all_constant (signal_at c.pins (pin_text En)) || (number_at c Param.Words == 0)

-- what is wrong with a cell of a memory, by its kind, with the module's connections and the write ports before it
abbrev pub is_bad_access : Bool → List Link → List WritePort → Store → Cell → MemoryKind → Bool
is_bad_access clocks links earlier s c Memrd = is_clocked c
is_bad_access clocks links earlier s c MemrdV2 = is_clocked c
is_bad_access clocks links earlier s c MemwrV2 = is_bad_write clocks links earlier c
is_bad_access clocks links earlier s c Meminit = not (are_words s c)
is_bad_access clocks links earlier s c MeminitV2 = not (are_words s c) || not (are_enables c)

-- a cell of this memory is a fault of it
abbrev pub is_bad_in : Bool → Module → List Cell → Cell → MemoryKind → Store → Bool
is_bad_in clocks m earlier c kind s =
    is_unlike s c || is_bad_access clocks m.links (cell_ports m.links s.name earlier) s c kind

-- a cell of a memory names none of the module, or is a fault of it, behind these cells
abbrev pub is_bad_memory_cell : Bool → Module → List Cell → Cell → MemoryKind → Bool
is_bad_memory_cell clocks m earlier c kind =
    option_map_or (is_bad_in clocks m earlier c kind) (option_and_then (store_named m.memories) (memory_name c.params)) true
