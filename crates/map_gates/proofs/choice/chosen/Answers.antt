use Rattle.std.proofs.Common.{rules, ◌∙◌, ◌+◌, ap, drop, get_or, length}
use Rattle.rtl_bits.specs.declared.bit.Bit.TheVariants.{S0}
use Rattle.rtl_sig.specs.declared.sig.SigBit.TheVariants.{Fixed}
use Rattle.gate_nets.specs.Words.{select_of}
use Rattle.map_gates.specs.Choice.{chosen_of}
use Rattle.map_gates.proofs.Limits.{chosen_over, chosen_step}
use Rattle.map_gates.proofs.choice.chosen.Goals as goal

pub returns-in_err-word-2-clause-over : goal.returns-in_err-word-2-clause-over
returns-in_err-word-2-clause-over c e =
    chosen_over (length c.args.a.now) c.loop-bit.word c.loop-bit.parts.now c.args.selects.now c.loop-bit.bit-index (Fixed S0) c.loop-bit.builder _ c.loop-bit-test.true c.loop-bit.invariant.net
    (search (rules, c.select.ensures.over, e, c.from_residual-in_err-word-2.ensures, c.below.ensures.value, c.as_slice.ensures.value))

pub loop-bit-preserved : goal.loop-bit-preserved
loop-bit-preserved c = record {
  net =
      ap (λ parts. chosen_of (length c.args.a.now) c.in_ok-word-2.word parts (drop (c.loop-bit.bit-index + 1) c.args.selects.now) c.select.new.builder) c.above-parts.ensures.value
      ∙ chosen_step (length c.args.a.now) c.loop-bit.word c.loop-bit.parts.now c.args.selects.now c.loop-bit.bit-index (Fixed S0) c.in_ok-word-2.word c.loop-bit.builder c.select.new.builder c.loop-bit-test.true
      (c.in_ok-word-2.ensures.exact ∙ (λ i. select_of (c.as_slice.ensures.value i) (c.below.ensures.value i) (get_or c.args.selects.now c.loop-bit.bit-index (Fixed S0)) c.loop-bit.builder))
      ∙ c.loop-bit.invariant.net;
  within = λ h. c.in_ok-word-2.ensures.within (c.loop-bit.invariant.within h);
}
