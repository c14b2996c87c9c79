-- The places so far are the same.
use Rattle.std.proofs.Common.{◌≡◌, drop}
use Rattle.rtl_ir.specs.Signals.{same_signal}
use Rattle.rtl_ir.proofs.signals.same_signal.Given as goal

abbrev pub invariant-loop-at : goal.invariant-loop-at
invariant-loop-at l = same_signal l.a l.b ≡ same_signal (drop l.at l.a) (drop l.at l.b)
