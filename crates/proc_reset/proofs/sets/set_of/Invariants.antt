-- The set has the bits so far, from the last one on.
use Rattle.std.proofs.Common.{drop}
use Rattle.proc_reset.specs.Reads.{AreIn}
use Rattle.proc_reset.proofs.sets.set_of.Given as goal

abbrev pub invariant-loop-at : goal.invariant-loop-at
invariant-loop-at l = AreIn l.set (drop l.at l.bits)
