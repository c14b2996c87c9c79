-- The places so far and those that are left are all.
use Rattle.std.proofs.Common.{◌≡◌, ◌+◌, ◌≤◌, length, drop}
use Rattle.rtl_ir.specs.Follow.{joins}
use Rattle.process_trees.proofs.tables.count_line.Given as goal

abbrev pub invariant-loop-at : goal.invariant-loop-at
invariant-loop-at l = record {
  most : l.count ≤ l.at;
  all : l.count + length (joins (drop l.at l.left) (drop l.at l.right)) ≡ length (joins l.left l.right);
}
