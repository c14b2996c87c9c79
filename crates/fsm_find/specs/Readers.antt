-- Who reads the state and the tree.
use Rattle.std.specs.Prelude.{◌≡◌, ℕ, ◌++◌, Bool, true, List, None, Some, if◌then◌else◌, ◌||◌, ◌&&◌, not}
use Rattle.rtl_sig.specs.declared.sig.SigBit.{SigBit}
use Rattle.rtl_sig.specs.declared.sig.WireBit.{WireBit}
use Rattle.rtl_ir.specs.declared.cell.Cell.{Cell}
use Rattle.rtl_ir.specs.declared.cell.Pin.{Pin}
use Rattle.rtl_ir.specs.declared.module.Module.{Module}
use Rattle.rtl_ir.specs.Signals.{has_bit, wire_bits}
use Rattle.rtl_ir.specs.Types.{Ports}
use Rattle.net_index.specs.declared.index_table.BitTable.{BitTable}
use Rattle.net_index.specs.IndexTable.{at_bit}
use Rattle.net_model.specs.Fsm.Find.{cells_read_well, compares, followed_bits, has_place, is_output_pin, may_read, meets_any, ports_read_well, reads_well, tree_outputs}
use Rattle.fsm_find.specs.Order.{is_done}

-- these bits are marked, and no others
abbrev pub AreMarks : BitTable Bool → List WireBit → Type 0
AreMarks table bits = (b : WireBit) → at_bit table b ≡ (if has_bit bits b then Some true else None)

-- these places are marked, and no others
abbrev pub ArePlaces : List ℕ → List Bool → Type 0
ArePlaces places done = (at : ℕ) → has_place places at ≡ is_done done at

-- a cell drives a pin, or may read by it, or reads none of these bits by it
abbrev pub pin_reads_well : Ports → Module → List ℕ → ℕ → List WireBit → ℕ → Cell → Pin → Bool
pin_reads_well ports m forks flop bits at c pin =
    is_output_pin ports c pin || (may_read forks flop at pin || not (meets_any (followed_bits m pin.sig) bits))

-- a cell at a place reads the tree so, and the state so too, or compares it
abbrev pub cell_reads_well : Ports → Module → List ℕ → ℕ → List SigBit → List WireBit → ℕ → Cell → Bool
cell_reads_well ports m forks flop state outputs at c =
    reads_well ports m forks flop outputs at c && (compares m state c || reads_well ports m forks flop (wire_bits state) at c)

-- the state and the tree of these forks are read by no pin but those that may, and by no output port
abbrev pub are_read_well : Ports → Module → List ℕ → ℕ → List SigBit → Bool
are_read_well ports m forks flop state =
    cells_read_well ports m forks flop state (tree_outputs m forks) 0 m.cells
    && ports_read_well m (wire_bits state ++ tree_outputs m forks) 0 m.wires
