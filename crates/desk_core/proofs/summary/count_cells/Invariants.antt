-- The cells so far, and those of the results that are left, are all of them.
use Rattle.std.proofs.Common.{◌≡◌, ◌≤◌, ◌+◌, ◌*◌, drop}
use Rattle.desk_core.specs.Summary.{cells_found}
use Rattle.desk_core.proofs.summary.count_cells.Given as goal

abbrev pub invariant-loop-beside : goal.invariant-loop-beside
invariant-loop-beside l = record {
  all : l.cells + cells_found (drop l.beside-index l.found) ≡ cells_found l.found;
  few : l.cells ≤ l.beside-index * 18446744073709551616;
}
