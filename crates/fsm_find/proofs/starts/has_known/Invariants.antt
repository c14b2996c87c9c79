-- No bit so far is known.
use Rattle.std.proofs.Common.{◌≡◌, drop}
use Rattle.std.specs.List.{list_any}
use Rattle.rtl_bits.specs.Knowledge.{is_known}
use Rattle.fsm_find.proofs.starts.has_known.Given as goal

abbrev pub invariant-loop-bit : goal.invariant-loop-bit
invariant-loop-bit l = list_any is_known l.bits ≡ list_any is_known (drop l.bit-index l.bits)
