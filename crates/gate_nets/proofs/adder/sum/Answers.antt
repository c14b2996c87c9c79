use Rattle.std.proofs.Common.{◌≡◌, min, length, sym, ◌∙◌, ap, drop, ◌+◌, arith}
use Rattle.std.proofs.lemmas.List.{append-nil}
use Rattle.rtl_bits.specs.declared.bit.Bit.TheVariants.{S0}
use Rattle.rtl_sig.specs.declared.sig.SigBit.TheVariants.{Fixed}
use Rattle.gate_nets.specs.Sum.{sum_of}
use Rattle.gate_nets.proofs.Steps.{below_total, sum_end, sum_step}
use Rattle.gate_nets.proofs.adder.sum.Goals as goal

pub loop-at-preserved : goal.loop-at-preserved
loop-at-preserved c = record {
  net =
      ap (λ bits. below_total bits (sum_of (drop (c.loop-at.at + 1) c.args.a.now) (drop (c.loop-at.at + 1) c.args.b.now) c.in_ok-bit.next c.add_digit.new.builder)) c.in_ok-push.ensures.ok
      ∙ sum_step c.args.a.now c.args.b.now c.loop-at.bits c.loop-at.at (Fixed S0) c.loop-at.carried (c.in_ok-bit.bit, c.in_ok-bit.next) c.loop-at.builder c.add_digit.new.builder (omega (arith, c.loop-at-test.true)) (omega (arith, c.loop-at-test.true)) c.in_ok-bit.ensures.exact
      ∙ c.loop-at.invariant.net;
  within = λ h. c.in_ok-bit.ensures.within;
}

pub returns-clause-exact : goal.returns-clause-exact
returns-clause-exact c =
    let end : c.loop-at.at ≡ min (length c.args.a.now) (length c.args.b.now) = omega (arith, c.loop-at-test.false, c.loop-at.auto) in
    ap (λ bits. (record { bits = bits; carry = c.loop-at.carried }, c.loop-at.builder)) (sym (append-nil c.loop-at.bits))
    ∙ ap (below_total c.loop-at.bits) (sym (sum_end c.args.a.now c.args.b.now c.loop-at.at c.loop-at.carried c.loop-at.builder end))
    ∙ c.loop-at.invariant.net
