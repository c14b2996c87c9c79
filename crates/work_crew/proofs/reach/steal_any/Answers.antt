use Rattle.std.proofs.Common.{sym, subst}
use Rattle.work_crew.specs.Reach.{AreBelow}
use Rattle.work_crew.proofs.reach.steal_any.Goals as goal

pub returns-in-Success-clause-job : goal.returns-in-Success-clause-job
returns-in-Success-clause-job g c = λ n h. c.in-Success.ensures.job n (subst (AreBelow n) (sym c.loop-step.invariant.same) h)
