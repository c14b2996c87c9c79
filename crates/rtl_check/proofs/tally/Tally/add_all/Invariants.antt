-- The bits so far and those that are left are all counted.
use Rattle.std.proofs.Common.{◌≡◌, drop}
use Rattle.rtl_ir.specs.Signals.{wire_bits}
use Rattle.rtl_check.specs.Tallies.{with_bits}
use Rattle.rtl_check.proofs.tally.Tally.add_all.Given as goal

abbrev pub invariant-loop-bit : goal.invariant-loop-bit
invariant-loop-bit l = with_bits l.self (wire_bits (drop l.bit-index l.bits)) ≡ with_bits l.fn.self (wire_bits l.bits)
