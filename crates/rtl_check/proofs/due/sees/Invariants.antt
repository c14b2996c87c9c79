-- None of the cells so far has a type of the names.
use Rattle.std.proofs.Common.{◌≡◌, drop}
use Rattle.rtl_check.specs.Due.{sees}
use Rattle.rtl_check.proofs.due.sees.Given as goal

abbrev pub invariant-loop-cell : goal.invariant-loop-cell
invariant-loop-cell l = sees l.names (drop l.cell-index l.cells) ≡ sees l.names l.cells
