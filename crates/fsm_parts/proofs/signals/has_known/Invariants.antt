-- No bit so far is a known constant.
use Rattle.std.proofs.Common.{◌≡◌, drop}
use Rattle.std.specs.List.{list_any}
use Rattle.rtl_bits.specs.Knowledge.{is_known}
use Rattle.rtl_ir.specs.Signals.{constant_of}
use Rattle.fsm_parts.proofs.signals.has_known.Given as goal

abbrev pub invariant-loop-bit : goal.invariant-loop-bit
invariant-loop-bit l = list_any (λ s. is_known (constant_of s)) l.signal ≡ list_any (λ s. is_known (constant_of s)) (drop l.bit-index l.signal)
