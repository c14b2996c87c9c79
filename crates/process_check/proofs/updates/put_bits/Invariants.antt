-- The bits so far of the rule are given.
use Rattle.std.proofs.Common.{take}
use Rattle.process_check.specs.Updates.{AreCounts, AreGiven}
use Rattle.process_check.proofs.updates.put_bits.Given as goal

abbrev pub invariant-loop-bit : goal.invariant-loop-bit
invariant-loop-bit l =
    AreCounts l.fn.most l.fn.given.items → AreGiven l.given.items l.most l.here l.fn.given.items (take l.bit-index l.own)
