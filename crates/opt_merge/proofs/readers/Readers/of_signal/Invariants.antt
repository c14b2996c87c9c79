-- The set has the readers of the bits so far.
use Rattle.std.proofs.Common.{take}
use Rattle.opt_merge.specs.Among.{AreAmong}
use Rattle.opt_merge.specs.Readers.{readers_of_signal}
use Rattle.opt_merge.proofs.readers.Readers.of_signal.Given as goal

abbrev pub invariant-loop-bit : goal.invariant-loop-bit
invariant-loop-bit l = AreAmong (readers_of_signal l.self (take l.bit-index l.signal)) l.places.keys
