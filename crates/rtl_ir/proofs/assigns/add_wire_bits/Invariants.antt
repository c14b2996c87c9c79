-- The bits so far and those that are left are all.
use Rattle.std.proofs.Common.{◌≡◌, ◌++◌, drop}
use Rattle.rtl_ir.specs.Signals.{wire_bits}
use Rattle.rtl_ir.proofs.assigns.add_wire_bits.Given as goal

abbrev pub invariant-loop-bit : goal.invariant-loop-bit
invariant-loop-bit l = l.bits.items ++ wire_bits (drop l.bit-index l.signal) ≡ l.fn.bits.items ++ wire_bits l.signal
