-- The changes that are left lead back from the modules as all of them did.
use Rattle.std.proofs.Common.{◌≡◌}
use Rattle.design_edit.specs.Changes.{before_changes}
use Rattle.design_edit.proofs.changes.take_back.Given as goal

abbrev pub invariant-loop-change : goal.invariant-loop-change
invariant-loop-change l = before_changes l.changes.items l.modules.items ≡ before_changes l.initial.changes.items l.initial.modules.items

abbrev pub decreases-loop-change : goal.decreases-loop-change
decreases-loop-change l = goal.left-loop-change l
