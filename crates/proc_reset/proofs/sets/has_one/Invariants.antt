-- None of the bits so far is in the set.
use Rattle.std.proofs.Common.{◌≡◌, List, drop}
use Rattle.std.specs.List.{list_any}
use Rattle.rtl_sig.specs.declared.sig.WireBit.{WireBit}
use Rattle.rtl_ir.specs.Signals.{has_bit}
use Rattle.proc_reset.specs.Reads.{AreIn}
use Rattle.proc_reset.proofs.sets.has_one.Given as goal

abbrev pub invariant-loop-bit : goal.invariant-loop-bit
invariant-loop-bit l = (all : List WireBit) → AreIn l.set all → list_any (has_bit all) (drop l.bit-index l.bits) ≡ list_any (has_bit all) l.bits
