-- The wires of the bits so far are noted.
use Rattle.std.proofs.Common.{◌≡◌, drop}
use Rattle.rtl_ir.specs.Signals.{wire_bits}
use Rattle.opt_clean.specs.Moving.{noted}
use Rattle.opt_clean.proofs.wires.note_signal.Given as goal

abbrev pub invariant-loop-bit : goal.invariant-loop-bit
invariant-loop-bit l =
    noted l.named.items (wire_bits (drop l.bit-index l.signal)) ≡ noted l.fn.named.items (wire_bits l.signal)
