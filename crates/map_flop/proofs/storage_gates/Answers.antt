use Rattle.std.proofs.Common.{rules}
use Rattle.rtl_bits.specs.declared.bit.Bit.TheVariants.{S0}
use Rattle.rtl_sig.specs.declared.sig.SigBit.TheVariants.{Fixed}
use Rattle.map_flop.proofs.Adding.{gate_over}
use Rattle.map_flop.proofs.storage_gates.Goals as goal

pub returns-in_err-storage_gate-clause-over : goal.returns-in_err-storage_gate-clause-over
returns-in_err-storage_gate-clause-over c e =
    gate_over c.args.kind c.args.shape.now c.args.cell.now c.bit_gate-gate.result c.loop-at.at c.pin_signal-qs.result.now c.loop-at.builder _ (Fixed S0) c.bit_gate-gate.ensures.value c.loop-at-test.true c.loop-at.invariant.gates
    (search (rules, c.storage_gate.ensures.over, e, c.from_residual.ensures))
