use Rattle.std.proofs.Common.{◌≡◌, ◌*◌, replicate}
use Rattle.rtl_bits.specs.declared.bit.Bit.TheVariants.{S0}
use Rattle.rtl_sig.specs.declared.sig.SigBit.TheVariants.{Fixed}
use Rattle.expr_rules.proofs.rules.parts.zeros.Given as goal

-- the words so far
abbrev pub invariant-loop : goal.invariant-loop
invariant-loop l = l.zeros.items ≡ replicate (l.counter * l.width) (Fixed S0)
