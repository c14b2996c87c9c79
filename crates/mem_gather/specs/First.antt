-- A memory gathered from cells.
use Rattle.std.specs.Prelude.{ℕ, List, map}
use Rattle.rtl_ir.specs.declared.cell.Cell.{Cell}
use Rattle.rtl_ir.specs.declared.plan.MemPlan.{MemPlan}
use Rattle.rtl_ir.specs.declared.store.Store.{Store}
use Rattle.rtl_ir.specs.Flat.Access.{cell_accesses, first_trigger}
use Rattle.net_model.specs.Mem.Gather.{clock_bit, is_rising, read_ports, words_of, write_port}

-- the plan of a memory at a place of the list of memories, from these cells
abbrev pub gathered_from : List Cell → ℕ → Store → MemPlan
gathered_from cells at s = record {
  store = at;
  words = words_of s cells;
  reads = read_ports s.name 0 cells;
  writes = map write_port (cell_accesses s.name cells);
  clock = clock_bit (first_trigger (cell_accesses s.name cells)).signal;
  rising = is_rising (first_trigger (cell_accesses s.name cells)).level;
}
