-- The bits so far and those that are left are all.
use Rattle.std.proofs.Common.{◌≡◌, ◌++◌, drop, map}
use Rattle.rtl_ir.specs.Signals.{constant_of}
use Rattle.rtl_ir.proofs.signals.constants_of.Given as goal

abbrev pub invariant-loop-bit : goal.invariant-loop-bit
invariant-loop-bit l = l.bits ++ map constant_of (drop l.bit-index l.signal) ≡ map constant_of l.signal
