use Rattle.std.proofs.Common.{rules, ◌∙◌, ap, drop, ◌+◌}
use Rattle.cell_types.specs.declared.word.BitwiseKind.TheVariants.{And}
use Rattle.rtl_bits.specs.declared.bit.Bit.TheVariants.{S0}
use Rattle.rtl_sig.specs.declared.sig.SigBit.TheVariants.{Fixed}
use Rattle.gate_nets.specs.declared.gate.Gate.TheVariants.{Bitwise}
use Rattle.gate_nets.proofs.Limits.{each_over}
use Rattle.gate_nets.proofs.Steps.{below, each_step}
use Rattle.map_mul.specs.Product.{row_of}
use Rattle.map_mul.proofs.product.row.Goals as goal

pub returns-in_err-add_gate-clause-over : goal.returns-in_err-add_gate-clause-over
returns-in_err-add_gate-clause-over c e =
    each_over (λ bit. Bitwise And bit c.args.by) c.args.bits.now c.loop-bit.made c.loop-bit.bit-index (Fixed S0) c.loop-bit.builder _ c.loop-bit-test.true c.loop-bit.invariant.net
    (search (rules, c.add_gate.ensures.over, e, c.from_residual.ensures))

pub loop-bit-preserved : goal.loop-bit-preserved
loop-bit-preserved c = record {
  net =
      ap (λ made. below made (row_of (drop (c.loop-bit.bit-index + 1) c.args.bits.now) c.args.by c.add_gate.new.builder)) c.in_ok-push.ensures.ok
      ∙ each_step (λ bit. Bitwise And bit c.args.by) c.args.bits.now c.loop-bit.made c.loop-bit.bit-index (Fixed S0) c.in_ok-add_gate.field-0 c.loop-bit.builder c.add_gate.new.builder c.loop-bit-test.true c.in_ok-add_gate.ensures.exact
      ∙ c.loop-bit.invariant.net;
  within = λ h. c.in_ok-add_gate.ensures.within;
}
