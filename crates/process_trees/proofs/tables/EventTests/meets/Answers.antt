use Rattle.std.proofs.Common.{◌≡◌, ◌+◌, ◌-◌, suc, length, sym, ◌∙◌, ap, arith}
use Rattle.rtl_ir.specs.EventTests.{meets_within}
use Rattle.rtl_ir.specs.Follow.{all_joins}
use Rattle.process_trees.proofs.Ways.{meets_end, meets_here, meets_on}
use Rattle.process_trees.proofs.tables.EventTests.meets.Goals as goal

pub loop-step-init : goal.loop-step-init
loop-step-init c = λ links are k e. ap (λ n. meets_within (all_joins links) n c.args.bit c.args.place) (omega arith)

pub returns-then-is_bit : goal.returns-then-is_bit
returns-then-is_bit c = record {
  value = λ links are.
      let steps = are.steps in
      let k = c.args.self.now.steps - c.loop-step._step in
      let whole : k + c.loop-step._step ≡ length (all_joins links) = omega arith in
      sym (meets_here (all_joins links) k c.args.bit c.loop-step.at (sym c.is_bit.ensures.value ∙ c.if-is_bit.true)) ∙ c.loop-step.invariant links are k whole;
}

pub returns-in-None : goal.returns-in-None
returns-in-None c = record {
  value = λ links are.
      let steps = are.steps in
      let k = c.args.self.now.steps - c.loop-step._step in
      let whole : k + c.loop-step._step ≡ length (all_joins links) = omega arith in
      sym (meets_end (all_joins links) k c.args.bit c.loop-step.at (sym c.is_bit.ensures.value ∙ c.if-is_bit.false) (sym (c.back.ensures.value links are) ∙ c.in-None.is)) ∙ c.loop-step.invariant links are k whole;
}

pub loop-step-preserved : goal.loop-step-preserved
loop-step-preserved c = λ links are k e.
    let whole : suc k + c.loop-step._step ≡ length (all_joins links) = omega arith in
    sym (meets_on (all_joins links) k c.args.bit c.loop-step.at c.in-Some.next (sym c.is_bit.ensures.value ∙ c.if-is_bit.false) (sym (c.back.ensures.value links are) ∙ c.in-Some.is)) ∙ c.loop-step.invariant links are (suc k) whole

pub returns : goal.returns
returns c = record {
  value = λ links are.
      let steps = are.steps in
      let whole : 0 + c.loop-step._step ≡ length (all_joins links) = omega arith in
      c.is_bit-2.ensures.value ∙ c.loop-step.invariant links are 0 whole;
}
