-- The table has the names from the place on.
use Rattle.std.proofs.Common.{◌≡◌, ℕ, List, drop}
use Rattle.flat_pass.specs.ByName.{at_name, place_from}
use Rattle.flat_pass.specs.ByName.{names_now}
use Rattle.flat_pass.proofs.by_name.ByName.of.Given as goal

abbrev pub invariant-loop-at : goal.invariant-loop-at
invariant-loop-at l = (name : List ℕ) → at_name l.places name ≡ place_from l.at (names_now (drop l.at l.names)) name
