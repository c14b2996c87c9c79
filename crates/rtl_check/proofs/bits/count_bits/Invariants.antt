-- The bits so far and those that are left are all counted.
use Rattle.std.proofs.Common.{◌≡◌, drop}
use Rattle.rtl_check.specs.Tallies.{with_bits}
use Rattle.rtl_check.proofs.bits.count_bits.Given as goal

abbrev pub invariant-loop-bit : goal.invariant-loop-bit
invariant-loop-bit l = with_bits l.tally (drop l.bit-index l.bits) ≡ with_bits l.fn.tally l.bits
