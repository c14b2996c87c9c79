-- With those that are left marked, all are.
use Rattle.std.proofs.Common.{◌≡◌, drop}
use Rattle.process_trees.specs.Walk.{marked}
use Rattle.process_trees.proofs.walk.mark_all.Given as goal

abbrev pub invariant-loop-at : goal.invariant-loop-at
invariant-loop-at l = marked l.unset.items (drop l.at-index l.set) l.value ≡ marked l.initial.unset.items l.set l.value
