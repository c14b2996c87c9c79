-- The copies of the bits so far.
use Rattle.std.proofs.Common.{◌≡◌, take}
use Rattle.flat_pass.specs.Copies.{copied_signal}
use Rattle.flat_pass.proofs.copies.copied_signal.Given as goal

abbrev pub invariant-loop-bit : goal.invariant-loop-bit
invariant-loop-bit l = l.copy ≡ copied_signal l.first (take l.bit-index l.signal)
