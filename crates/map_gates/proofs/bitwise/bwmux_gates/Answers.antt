use Rattle.std.proofs.Common.{rules}
use Rattle.rtl_bits.specs.declared.bit.Bit.TheVariants.{S0}
use Rattle.rtl_sig.specs.declared.sig.SigBit.TheVariants.{Fixed}
use Rattle.map_gates.proofs.Over.{bwmux_over}
use Rattle.map_gates.proofs.bitwise.bwmux_gates.Goals as goal

pub returns-in_err-mux_gate-clause-over : goal.returns-in_err-mux_gate-clause-over
returns-in_err-mux_gate-clause-over c e =
    bwmux_over c.args.a.now c.args.b.now c.args.s.now c.loop-at.at c.args.y.now c.loop-at.builder _ (Fixed S0) c.loop-at-test.true c.loop-at.invariant.gates
    (search (rules, c.mux_gate.ensures.over, e, c.from_residual.ensures))
