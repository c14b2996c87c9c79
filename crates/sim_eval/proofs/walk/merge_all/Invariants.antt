-- The bits before the place are merged.
use Rattle.sim_eval.proofs.TreeLoops.{MergedTo}
use Rattle.sim_eval.proofs.walk.merge_all.Given as goal

abbrev pub invariant-loop-at : goal.invariant-loop-at
invariant-loop-at l = MergedTo l.at l.fn.bits l.others l.bits
