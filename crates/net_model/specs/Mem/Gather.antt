-- A memory gathered from the cells of a module without processes: its words, its ports and their clock.
use Rattle.std.specs.Prelude.{ℕ, ◌+◌, ◌&&◌, Bool, true, false, List, [], ◌∷◌, map, slice_get, Option, option_map, if◌then◌else◌}
use Rattle.std.specs.List.{range_with_len}
use Rattle.rtl_bits.specs.declared.bit.Bit.{Bit}
use Rattle.rtl_bits.specs.declared.bit.Bit.TheVariants.{X}
use Rattle.rtl_sig.specs.declared.sig.SigBit.{SigBit}
use Rattle.rtl_sig.specs.declared.sig.SigBit.TheVariants.{Fixed}
use Rattle.cell_types.specs.declared.level.Level.{Level}
use Rattle.cell_types.specs.declared.level.Level.TheVariants as At
use Rattle.cell_types.specs.declared.pin_name.PinName.TheVariants.{Addr, Data}
use Rattle.cell_types.specs.PinName.{pin_text}
use Rattle.rtl_ir.specs.declared.cell.Cell.{Cell}
use Rattle.rtl_ir.specs.declared.module.Module.{Module}
use Rattle.rtl_ir.specs.declared.plan.MemPlan.{MemPlan}
use Rattle.rtl_ir.specs.declared.plan.ReadPort.{ReadPort}
use Rattle.rtl_ir.specs.declared.plan.WritePort.{WritePort}
use Rattle.rtl_ir.specs.declared.store.Store.{Store}
use Rattle.rtl_ir.specs.Flat.Access.{Access, cell_accesses, first_trigger}
use Rattle.rtl_ir.specs.Flat.Cell.{cell_kind}
use Rattle.rtl_ir.specs.Flat.Memory.{is_read_kind, init_cells, start_word_bit, addresses_of}
use Rattle.rtl_ir.specs.Parameters.{signal_at}
use Rattle.rtl_ir.specs.WritePorts.{is_of_memory}

-- the start words, in order of address
abbrev pub words_of : Store → List Cell → List (List Bit)
words_of s cells =
    map (λ address. map (start_word_bit (init_cells s.name cells) s.width address) (range_with_len 0 s.width)) (addresses_of s)

-- a read port, of a cell at a place of the list
abbrev pub read_port : ℕ → Cell → ReadPort
read_port at c = record { cell = at; address = signal_at c.pins (pin_text Addr); «data» = signal_at c.pins (pin_text Data) }

-- the read ports of the memory of this name, among the cells from a place on
abbrev pub read_ports : List ℕ → ℕ → List Cell → List ReadPort
read_ports name at [] = []
read_ports name at (c ∷ cells) =
    if is_read_kind (cell_kind c) && is_of_memory name c
    then read_port at c ∷ read_ports name (at + 1) cells
    else read_ports name (at + 1) cells

-- a write port
abbrev pub write_port : Access → WritePort
write_port a = record { number = a.number; address = a.address; «data» = a.new; enable = a.enable; mask = a.mask }

-- the one bit of a clock
abbrev pub clock_bit : List SigBit → SigBit
clock_bit [] = Fixed X
clock_bit (s ∷ signal) = s

-- whether an edge is a rising one
abbrev pub is_rising : Level → Bool
is_rising At.High = true
is_rising At.Low = false

-- a memory at a place of the list of memories; the clock is that of the write port with the lowest number
abbrev pub gathered : Module → ℕ → Store → MemPlan
gathered m at s = record {
  store = at;
  words = words_of s m.cells;
  reads = read_ports s.name 0 m.cells;
  writes = map write_port (cell_accesses s.name m.cells);
  clock = clock_bit (first_trigger (cell_accesses s.name m.cells)).signal;
  rising = is_rising (first_trigger (cell_accesses s.name m.cells)).level;
}

-- the plan of the memory at a place, where there is one
abbrev pub plan_of : Module → ℕ → Option MemPlan
plan_of m at = option_map (gathered m at) (slice_get m.memories at)
