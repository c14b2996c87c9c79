use Rattle.desk_core.proofs.Staying.{AreSeenBelow}
use Rattle.desk_core.proofs.beside.let_go_unseen.Given as goal

-- those so far were looked at
abbrev pub invariant-loop-at : goal.invariant-loop-at
invariant-loop-at l = AreSeenBelow l.design.design.modules l.initial.found.items l.found.items l.at
