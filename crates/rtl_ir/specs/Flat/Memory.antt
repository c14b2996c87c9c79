-- The rows of memories: bits of words, and bits that read ports give.
use Rattle.std.specs.Prelude.{ℕ, suc, ◌+◌, ◌-◌, ◌*◌, Bool, true, false, ◌&&◌, List, [], ◌∷◌, ◌++◌, map, filter, flat_map, nat_abs, nat_le, nat_lt, Option, Some, if◌then◌else◌, slice_index_or}
use Rattle.std.specs.List.{range_with_len}
use Rattle.rtl_bits.specs.declared.bit.Bit.{Bit}
use Rattle.rtl_bits.specs.declared.bit.Bit.TheVariants.{S1, X}
use Rattle.rtl_bits.specs.Numbers.{is_one}
use Rattle.rtl_bits.specs.Tables.{seen_of}
use Rattle.rtl_sig.specs.declared.sig.SigBit.TheVariants as sig
use Rattle.cell_types.specs.declared.kind.CellKind.{CellKind}
use Rattle.cell_types.specs.declared.kind.CellKind.TheVariants as Cells
use Rattle.cell_types.specs.declared.memory.MemoryKind.TheVariants.{Memrd, MemrdV2, Meminit, MeminitV2}
use Rattle.cell_types.specs.declared.param_name.ParamName.TheVariants as Param
use Rattle.cell_types.specs.declared.pin_name.PinName.TheVariants.{En, Addr, Data}
use Rattle.cell_types.specs.PinName.{pin_text}
use Rattle.cell_gate.specs.Control.{pick_of}
use Rattle.rtl_ir.specs.declared.cell.Cell.{Cell}
use Rattle.rtl_ir.specs.declared.process.Process.{Process}
use Rattle.rtl_ir.specs.declared.store.Store.{Store}
use Rattle.rtl_ir.specs.declared.wire.Wire.{Wire}
use Rattle.rtl_ir.specs.Faults.MemoryCells.{number_at, first_address}
use Rattle.rtl_ir.specs.Signals.{constant_of}
use Rattle.rtl_ir.specs.Flat.Access.{Access, accesses_of, first_trigger}
use Rattle.rtl_ir.specs.Flat.Cell.{cell_kind}
use Rattle.rtl_ir.specs.Flat.Driver.{PortPoints, Driven, Remembered, Fetched}
use Rattle.rtl_ir.specs.Flat.Place.{Path, word_place}
use Rattle.rtl_ir.specs.Flat.Point.{Point, Constant, At, points, point_at}
use Rattle.rtl_ir.specs.Parameters.{signal_at}
use Rattle.rtl_ir.specs.WritePorts.{is_of_memory}

-- a cell reads a memory
abbrev pub is_read_kind : Option CellKind → Bool
is_read_kind (Some (Cells.Memory Memrd)) = true
is_read_kind (Some (Cells.Memory MemrdV2)) = true
is_read_kind kind = false

-- a cell gives start words
abbrev pub is_init_kind : Option CellKind → Bool
is_init_kind (Some (Cells.Memory Meminit)) = true
is_init_kind (Some (Cells.Memory MeminitV2)) = true
is_init_kind kind = false

-- a cell that gives start words says for each bit of a word whether it sets it: by its pin EN, where it has one
abbrev pub init_enable : Option CellKind → Cell → ℕ → Bit
init_enable (Some (Cells.Memory MeminitV2)) c at = constant_of (slice_index_or (signal_at c.pins (pin_text En)) at (sig.Fixed X))
init_enable kind c at = S1

-- the priority of a cell that gives start words
abbrev pub priority_of : Cell → ℕ
priority_of c = number_at c Param.Priority

-- a cell before the first one whose priority is greater
abbrev pub place_init : Cell → List Cell → List Cell
place_init c [] = c ∷ []
place_init c (d ∷ cells) = if nat_lt (priority_of c) (priority_of d) then c ∷ d ∷ cells else d ∷ place_init c cells

-- cells behind these in rising priority, those of one priority in their order
abbrev pub in_priority_order : List Cell → List Cell → List Cell
in_priority_order sorted [] = sorted
in_priority_order sorted (c ∷ cells) = in_priority_order (place_init c sorted) cells

-- the cells that give start words of a memory, in their order
abbrev pub init_cells : List ℕ → List Cell → List Cell
init_cells name cells =
    in_priority_order [] (filter (λ (c : Cell). is_init_kind (cell_kind c) && is_of_memory name c) cells)

-- what a cell makes of a start bit, at an address and a place of words of a width
abbrev pub init_bit_of : ℕ → Cell → ℕ → ℕ → Bit → Bit
init_bit_of width c address at old =
    if nat_le (first_address c) address && nat_lt address (first_address c + number_at c Param.Words)
    then pick_of (init_enable (cell_kind c) c at)
    (constant_of (slice_index_or (signal_at c.pins (pin_text Data)) ((address - first_address c) * width + at) (sig.Fixed X))) old
    else old

-- what cells make of a start bit, one after another
abbrev pub init_bits_of : ℕ → List Cell → ℕ → ℕ → Bit → Bit
init_bits_of width [] address at old = old
init_bits_of width (c ∷ cells) address at old =
    init_bits_of width cells address at (init_bit_of width c address at old)

-- the start value of a bit of a word
abbrev pub start_word_bit : List Cell → ℕ → ℕ → ℕ → Bit
start_word_bit inits width address at = seen_of (init_bits_of width inits address at X)

-- a bit of a mask, by the number of a port
abbrev pub may_follow : List Bit → Access → Bool
may_follow mask before = is_one (slice_index_or mask before.number X)

-- the write ports as a bit of a word sees them, behind these ports
abbrev pub port_points : Path → List Wire → ℕ → List Access → List Access → List PortPoints
port_points p wires at before [] = []
port_points p wires at before (a ∷ accesses) =
    record {
      address = points p wires a.address;
      enable = point_at (points p wires a.enable) at;
      new = point_at (points p wires a.new) at;
      follows = map (may_follow a.mask) before;
    }
    ∷ port_points p wires at (before ++ a ∷ []) accesses

-- a bit of the word at an address
abbrev pub word_row : Path → List Wire → Store → List Access → List Cell → ℕ → ℕ → Driven
word_row p wires s accesses inits address at = record {
  place = word_place p s.name address at;
  driver =
      Remembered (start_word_bit inits s.width address at)
      (point_at (points p wires (first_trigger accesses).signal) 0) (first_trigger accesses).level
      address (port_points p wires at [] accesses) (word_place p s.name address at);
}

-- the addresses of the words of a memory
abbrev pub addresses_of : Store → List ℕ
addresses_of s = range_with_len (nat_abs s.offset) (nat_abs s.size)

-- the bits of the words of a memory
abbrev pub word_rows : Path → List Wire → Store → List Access → List Cell → List Driven
word_rows p wires s accesses inits =
    flat_map (λ address. map (word_row p wires s accesses inits address) (range_with_len 0 s.width)) (addresses_of s)

-- a bit of each word of a memory
abbrev pub words_at : Path → Store → ℕ → List Point
words_at p s at = map (λ address. At (word_place p s.name address at)) (addresses_of s)

-- the bits that a read port drives, from this place on
abbrev pub fetched_rows : Path → Store → List Point → List Point → ℕ → List Driven
fetched_rows p s address [] at = []
fetched_rows p s address (At q ∷ ds) at =
    record { place = q; driver = Fetched address (nat_abs s.offset) (words_at p s at) } ∷ fetched_rows p s address ds (suc at)
fetched_rows p s address (Constant b ∷ ds) at = fetched_rows p s address ds (suc at)

-- a read port of a memory
abbrev pub read_rows : Path → List Wire → Store → Cell → List Driven
read_rows p wires s c =
    fetched_rows p s (points p wires (signal_at c.pins (pin_text Addr))) (points p wires (signal_at c.pins (pin_text Data))) 0

-- the read ports of a memory
abbrev pub reading_cells : List ℕ → List Cell → List Cell
reading_cells name cells = filter (λ (c : Cell). is_read_kind (cell_kind c) && is_of_memory name c) cells

-- a memory: its words, and its read ports
abbrev pub memory_rows : Path → List Wire → List Cell → List Process → Store → List Driven
memory_rows p wires cells processes s =
    word_rows p wires s (accesses_of s.name cells processes) (init_cells s.name cells)
    ++ flat_map (read_rows p wires s) (reading_cells s.name cells)

-- the rows of the memories of a module
abbrev pub memories_rows : Path → List Wire → List Cell → List Process → List Store → List Driven
memories_rows p wires cells processes stores = flat_map (memory_rows p wires cells processes) stores
