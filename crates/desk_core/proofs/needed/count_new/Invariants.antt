use Rattle.std.proofs.Common.{◌≡◌, ◌≤◌, ◌+◌, drop}
use Rattle.desk_core.specs.Needed.{new_places}
use Rattle.desk_core.proofs.needed.count_new.Given as goal

-- those so far, and those from this place on, are all of them
abbrev pub invariant-loop-at : goal.invariant-loop-at
invariant-loop-at l = record {
  all : l.count + new_places (drop l.at l.marks) (drop l.at l.ages) ≡ new_places l.marks l.ages;
  few : l.count ≤ l.at;
}
