-- The outside sees no bit so far.
use Rattle.std.proofs.Common.{◌≡◌, drop}
use Rattle.std.specs.List.{list_any}
use Rattle.rtl_ir.specs.Signals.{wire_bits}
use Rattle.opt_clean.specs.Marking.{is_seen}
use Rattle.opt_clean.proofs.kept.has_shown.Given as goal

abbrev pub invariant-loop-bit : goal.invariant-loop-bit
invariant-loop-bit l =
    list_any (is_seen l.shown) (wire_bits l.signal) ≡ list_any (is_seen l.shown) (wire_bits (drop l.bit-index l.signal))
