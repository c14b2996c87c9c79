-- The bits so far and those that are left are all counted.
use Rattle.std.proofs.Common.{◌≡◌, ◌-◌}
use Rattle.rtl_ir.specs.Signals.{bits_of_wire}
use Rattle.rtl_check.specs.Tallies.{with_bits}
use Rattle.rtl_check.proofs.Tallying.{bits_from}
use Rattle.rtl_check.proofs.bits.count_wire.Given as goal

abbrev pub invariant-loop-at : goal.invariant-loop-at
invariant-loop-at l = with_bits l.tally (bits_from l.wire l.at (l.width - l.at)) ≡ with_bits l.fn.tally (bits_of_wire l.wire l.width)
