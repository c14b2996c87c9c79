-- The rows so far and those of the wires that are left are all rows.
use Rattle.std.proofs.Common.{◌≡◌, ◌+◌, ◌++◌, drop}
use Rattle.net_index.specs.Numbering.{bit_count, rows_from, widths_of}
use Rattle.net_index.proofs.numbering.Numbering.of.Given as goal

abbrev pub invariant-loop-wire : goal.invariant-loop-wire
invariant-loop-wire l = record {
  rows : l.rows.items ++ rows_from l.count (widths_of (drop l.wire-index l.wires)) ≡ rows_from 0 (widths_of l.wires);
  count : l.count + bit_count (widths_of (drop l.wire-index l.wires)) ≡ bit_count (widths_of l.wires);
}
