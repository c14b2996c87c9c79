-- What is counted so far and what is left give all.
use Rattle.std.proofs.Common.{◌≡◌, drop, flat_map}
use Rattle.rtl_ir.specs.Types.{Ports}
use Rattle.net_index.specs.Types.{AreTypes}
use Rattle.rtl_check.specs.Tallies.{bits_of_cell, with_bits}
use Rattle.rtl_check.proofs.bits.count_cells.Given as goal

abbrev pub invariant-loop-cell : goal.invariant-loop-cell
invariant-loop-cell l = record {
  widths : l.tally.widths ≡ l.fn.tally.widths;
  counted : (ports : Ports) → AreTypes l.types ports → with_bits l.tally (flat_map (bits_of_cell ports) (drop l.cell-index l.cells)) ≡ with_bits l.fn.tally (flat_map (bits_of_cell ports) l.cells);
}
