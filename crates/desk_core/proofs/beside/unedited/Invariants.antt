use Rattle.std.proofs.Common.{◌≡◌, ◌++◌, drop}
use Rattle.desk_core.specs.Beside.{unedited}
use Rattle.desk_core.proofs.beside.unedited.Given as goal

-- the results so far, and those of the modules that are left, are all of them
abbrev pub invariant-loop-at : goal.invariant-loop-at
invariant-loop-at l = l.rest.items ++ unedited l.edits (drop l.at l.modules) (drop l.at l.found) ≡ unedited l.edits l.modules l.found
