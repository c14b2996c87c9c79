use Rattle.std.proofs.Common.{rules, ◌≡◌, ◌∷◌, ◌∙◌, ap, sym, ◌-◌, get_or, arith}
use Rattle.rtl_bits.specs.declared.bit.Bit.TheVariants.{S0}
use Rattle.rtl_sig.specs.declared.sig.SigBit.TheVariants.{Fixed}
use Rattle.gate_divide.specs.Division.{digit_of}
use Rattle.gate_divide.proofs.Steps.{divided_over, divided_step, division_beside}
use Rattle.gate_divide.proofs.division.divided.Goals as goal

pub returns-in_err-bit-clause-over : goal.returns-in_err-bit-clause-over
returns-in_err-bit-clause-over c e =
    divided_over c.args.dividend.now c.args.divisor.now c.loop-at.quotient c.loop-at.rest c.loop-at.at (Fixed S0) c.args.builder.now c.loop-at.builder (omega (arith, c.loop-at-test.true)) (omega (arith, c.loop-at.auto)) c.loop-at.invariant.net
    (search (rules, c.digit.ensures.over, e, c.from_residual-in_err-bit.ensures))

pub loop-at-preserved : goal.loop-at-preserved
loop-at-preserved c = record {
  net =
      let e : c.in_ok-quotient.quotient ≡ c.in_ok-bit.bit ∷ c.loop-at.quotient = cc (c.in_ok-quotient.ensures.value) in
      let made : ((c.in_ok-bit.bit, c.in_ok-bit.left), c.digit.new.builder) ≡ digit_of (get_or c.args.dividend.now (c.loop-at.at - 1) (Fixed S0)) c.loop-at.rest c.args.divisor.now c.loop-at.builder =
      c.in_ok-bit.ensures.exact ∙ ap (λ z. digit_of (get_or c.args.dividend.now (c.loop-at.at - 1) (Fixed S0)) z c.args.divisor.now c.loop-at.builder) c.as_slice.ensures.value in
      divided_step c.args.dividend.now c.args.divisor.now c.loop-at.quotient c.loop-at.rest c.loop-at.at (Fixed S0) (c.in_ok-bit.bit, c.in_ok-bit.left) c.args.builder.now c.loop-at.builder c.digit.new.builder (omega (arith, c.loop-at-test.true)) (omega (arith, c.loop-at.auto)) c.loop-at.invariant.net made
      ∙ ap (λ q. division_beside q c.in_ok-bit.left c.digit.new.builder) (sym e);
  within = λ h. c.in_ok-bit.ensures.within (c.loop-at.invariant.within h);
}
