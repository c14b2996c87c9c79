use Rattle.std.proofs.Common.{rules}
use Rattle.rtl_bits.specs.declared.bit.Bit.TheVariants.{S0}
use Rattle.rtl_sig.specs.declared.sig.SigBit.TheVariants.{Fixed}
use Rattle.map_gates.proofs.Over.{unary_over}
use Rattle.map_gates.proofs.bitwise.unary_gates.Goals as goal

pub returns-in_err-unary_gate-clause-over : goal.returns-in_err-unary_gate-clause-over
returns-in_err-unary_gate-clause-over c e =
    unary_over c.args.kind c.args.signed c.args.a.now c.loop-at.at c.args.y.now c.loop-at.builder _ (Fixed S0) c.loop-at-test.true c.loop-at.invariant.gates
    (search (rules, c.unary_gate.ensures.over, e, c.from_residual.ensures))
