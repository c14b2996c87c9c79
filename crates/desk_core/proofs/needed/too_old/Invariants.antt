use Rattle.std.proofs.Common.{◌≡◌, ◌++◌, drop}
use Rattle.desk_core.specs.Needed.{too_old}
use Rattle.desk_core.proofs.needed.too_old.Given as goal

-- those so far, and those from this place on, are all of them
abbrev pub invariant-loop-index : goal.invariant-loop-index
invariant-loop-index l =
    l.keys.items ++ too_old (drop l.index l.marks) (drop l.index l.ages.keys) (drop l.index l.ages.ages.items) ≡ too_old l.marks l.ages.keys l.ages.ages.items
