-- Those of the numbers so far.
use Rattle.std.proofs.Common.{◌≡◌, filter, not, take}
use Rattle.process_trees.specs.Walk.{unset_at}
use Rattle.process_trees.proofs.walk.set_now.Given as goal

abbrev pub invariant-loop-at : goal.invariant-loop-at
invariant-loop-at l = l.set.items ≡ filter (λ n. not (unset_at l.unset n)) (take l.at-index l.numbers)
