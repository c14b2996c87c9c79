-- The table has the places of the modules from the place on.
use Rattle.std.proofs.Common.{◌≡◌, ℕ, List, drop}
use Rattle.net_index.specs.Types.{at_name}
use Rattle.design_edit.specs.Table.{place_from}
use Rattle.design_edit.proofs.table.places_of.Given as goal

abbrev pub invariant-loop-at : goal.invariant-loop-at
invariant-loop-at l = (name : List ℕ) → at_name l.places name ≡ place_from l.at (drop l.at l.modules) name
