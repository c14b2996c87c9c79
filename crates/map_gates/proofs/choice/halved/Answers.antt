use Rattle.std.proofs.Common.{rules, ◌∙◌, get_or}
use Rattle.rtl_bits.specs.declared.bit.Bit.TheVariants.{S0}
use Rattle.rtl_sig.specs.declared.sig.SigBit.TheVariants.{Fixed}
use Rattle.map_gates.specs.Choice.{halve_of}
use Rattle.map_gates.proofs.Halves.{halved_over, halved_step}
use Rattle.map_gates.proofs.choice.halved.Goals as goal

pub returns-in_err-parts-2-clause-over : goal.returns-in_err-parts-2-clause-over
returns-in_err-parts-2-clause-over c e =
    halved_over c.args.width c.loop-bit.parts c.args.selects.now c.loop-bit.bit-index (Fixed S0) c.loop-bit.builder _ c.loop-bit-test.true c.loop-bit.invariant.net
    (search (rules, c.halve.ensures.over, e, c.from_residual-in_err-parts-2.ensures, c.as_slice.ensures.value))

pub loop-bit-preserved : goal.loop-bit-preserved
loop-bit-preserved c = record {
  net =
      halved_step c.args.width c.loop-bit.parts c.args.selects.now c.loop-bit.bit-index (Fixed S0) c.in_ok-parts-2.parts c.loop-bit.builder c.halve.new.builder c.loop-bit-test.true
      (c.in_ok-parts-2.ensures.exact ∙ (λ i. halve_of c.args.width (c.as_slice.ensures.value i) (get_or c.args.selects.now c.loop-bit.bit-index (Fixed S0)) c.loop-bit.builder))
      ∙ c.loop-bit.invariant.net;
  within = λ h. c.in_ok-parts-2.ensures.within (c.loop-bit.invariant.within h);
}
