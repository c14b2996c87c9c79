-- What is given so far, and at the places that are left, is all.
use Rattle.std.proofs.Common.{◌≡◌, ◌++◌, drop}
use Rattle.proc_mux.specs.Rows.{places_given, row_at}
use Rattle.proc_mux.proofs.given.places_given.Given as goal

abbrev pub invariant-loop-at : goal.invariant-loop-at
invariant-loop-at l = l.given.items ++ places_given (row_at l.rows) l.run l.at (drop l.at l.row) ≡ places_given (row_at l.rows) l.run 0 l.row
