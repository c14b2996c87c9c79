-- The cells so far and the marked ones that are left are all.
use Rattle.std.proofs.Common.{◌≡◌, ◌≤◌, ◌++◌, length, drop}
use Rattle.opt_clean.specs.Kept.{marked}
use Rattle.opt_clean.proofs.marked_cells.Given as goal

abbrev pub invariant-loop-cell : goal.invariant-loop-cell
invariant-loop-cell l = record {
  within : l.place ≤ length l.marks;
  all : l.kept.items ++ marked (drop l.place l.marks) l.cell-iterator.rest.items ≡ marked l.marks l.fn.cells.items;
}
