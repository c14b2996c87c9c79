-- The set has the bits so far, from the last one on.
use Rattle.std.proofs.Common.{drop}
use Rattle.rtl_ir.specs.Signals.{wire_bits}
use Rattle.proc_reset.specs.Reads.{AreIn}
use Rattle.proc_reset.proofs.sets.set_of_signal.Given as goal

abbrev pub invariant-loop-at : goal.invariant-loop-at
invariant-loop-at l = AreIn l.set (wire_bits (drop l.at l.signal))
