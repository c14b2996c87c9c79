-- The bits so far are known constants.
use Rattle.std.proofs.Common.{◌≡◌, drop}
use Rattle.std.specs.List.{list_all}
use Rattle.rtl_bits.specs.Knowledge.{is_known}
use Rattle.rtl_ir.specs.Signals.{constant_of}
use Rattle.fsm_parts.proofs.signals.are_known.Given as goal

abbrev pub invariant-loop-bit : goal.invariant-loop-bit
invariant-loop-bit l = list_all (λ s. is_known (constant_of s)) l.signal ≡ list_all (λ s. is_known (constant_of s)) (drop l.bit-index l.signal)
