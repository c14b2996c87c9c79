use Rattle.std.proofs.Common.{◌≡◌, ◌++◌, drop, map}
use Rattle.rtl_sig.specs.declared.sig.SigBit.TheVariants.{Fixed}
use Rattle.rtl_read.proofs.constant.all_fixed.Given as goal

abbrev pub invariant-loop-bit : goal.invariant-loop-bit
invariant-loop-bit l = l.signal ++ map (λ b. Fixed b) (drop l.bit-index l.bits) ≡ map (λ b. Fixed b) l.bits
