use Rattle.std.proofs.Common.{drop, map, sym, subst}
use Rattle.rtl_ir.specs.Follow.{follow}
use Rattle.opt_more.specs.Gather.{AreAlike}
use Rattle.opt_more.proofs.Stopping.{stays_over}
use Rattle.opt_more.proofs.folds.add_followed.Goals as goal

pub returns-then-is_over-clause-bits : goal.returns-then-is_over-clause-bits
returns-then-is_over-clause-bits c = λ links aliases.
    subst (AreAlike c.loop-bit.bits.bits) (c.loop-bit.invariant.bits links aliases)
    (stays_over c.args.neutral (map (follow links) (drop c.loop-bit.bit-index c.args.inputs.now)) c.loop-bit.bits.bits (sym c.if-is_over.ensures.value))
