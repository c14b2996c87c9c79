use Rattle.std.proofs.Common.{rules, ◌≡◌, min, length, sym, ◌∙◌, ap, drop, ◌+◌, arith}
use Rattle.std.proofs.lemmas.List.{append-nil}
use Rattle.rtl_bits.specs.declared.bit.Bit.TheVariants.{S0}
use Rattle.rtl_sig.specs.declared.sig.SigBit.TheVariants.{Fixed}
use Rattle.gate_nets.specs.Words.{bitwise_of}
use Rattle.gate_nets.specs.declared.gate.Gate.TheVariants.{Bitwise}
use Rattle.gate_nets.proofs.Limits.{pairs_over}
use Rattle.gate_nets.proofs.Steps.{below, pairs_end, pairs_step}
use Rattle.gate_nets.proofs.words.bitwise.Goals as goal

pub returns-in_err-add_gate-clause-over : goal.returns-in_err-add_gate-clause-over
returns-in_err-add_gate-clause-over c e =
    pairs_over (Bitwise c.args.kind) c.args.a.now c.args.b.now c.loop-at.made c.loop-at.at (Fixed S0) c.loop-at.builder _ (omega (arith, c.loop-at-test.true)) (omega (arith, c.loop-at-test.true)) c.loop-at.invariant.net
    (search (rules, c.add_gate.ensures.over, e, c.from_residual.ensures))

pub loop-at-preserved : goal.loop-at-preserved
loop-at-preserved c = record {
  net =
      ap (λ made. below made (bitwise_of c.args.kind (drop (c.loop-at.at + 1) c.args.a.now) (drop (c.loop-at.at + 1) c.args.b.now) c.add_gate.new.builder)) c.in_ok-push.ensures.ok
      ∙ pairs_step (Bitwise c.args.kind) c.args.a.now c.args.b.now c.loop-at.made c.loop-at.at (Fixed S0) c.in_ok-add_gate.field-0 c.loop-at.builder c.add_gate.new.builder (omega (arith, c.loop-at-test.true)) (omega (arith, c.loop-at-test.true)) c.in_ok-add_gate.ensures.exact
      ∙ c.loop-at.invariant.net;
  within = λ h. c.in_ok-add_gate.ensures.within;
}

pub returns-clause-exact : goal.returns-clause-exact
returns-clause-exact c =
    let end : c.loop-at.at ≡ min (length c.args.a.now) (length c.args.b.now) = omega (arith, c.loop-at-test.false, c.loop-at.auto) in
    ap (λ bits. (bits, c.loop-at.builder)) (sym (append-nil c.loop-at.made))
    ∙ ap (below c.loop-at.made) (sym (pairs_end (Bitwise c.args.kind) c.args.a.now c.args.b.now c.loop-at.at c.loop-at.builder end))
    ∙ c.loop-at.invariant.net
