use Rattle.std.proofs.Common.{◌≡◌, ◌+◌, ◌-◌, suc, sym, ◌∙◌, ap, arith}
use Rattle.rtl_ir.specs.EventTests.{differs, step_at, test_within}
use Rattle.std.specs.Prelude.{option_map}
use Rattle.process_trees.specs.Steps.{step_as}
use Rattle.process_trees.specs.Tested.{met}
use Rattle.process_trees.proofs.Testing.{as_is, tests_end, tests_here, tests_last, tests_on}
use Rattle.process_trees.proofs.tables.EventTests.test_of.Goals as goal

pub loop-step-init : goal.loop-step-init
loop-step-init c = λ ports are fit k e.
    let whole : k ≡ 4 = omega arith in
    as_is (test_within ports c.args.module.now k c.args.event c.args.place)
    ∙ ap (λ n. test_within ports c.args.module.now n c.args.event c.args.place) whole

pub returns-then-meets : goal.returns-then-meets
returns-then-meets c = record {
  value = λ ports are fit.
      let k = 4 - c.loop-step._step in
      let whole : k + c.loop-step._step ≡ 4 = omega arith in
      sym (tests_here ports c.args.module.now c.args.event c.loop-step.inverse c.loop-step.at k (sym (c.meets.ensures.value c.args.module.now.links are.links) ∙ c.if-meets.true))
      ∙ c.loop-step.invariant ports are fit k whole;
}

pub returns-in_default : goal.returns-in_default
returns-in_default c = record {
  value = λ ports are fit.
      let m = c.args.module.now in
      let k = 3 - c.loop-step._step in
      let whole : suc k + c.loop-step._step ≡ 4 = omega arith in
      sym (tests_end ports m c.args.event c.loop-step.inverse c.loop-step.at k (sym (c.meets.ensures.value m.links are.links) ∙ c.if-meets.false)
      (sym (ap (option_map step_as) c.in_default.is) ∙ c.in_ok-step.ensures.value ports are fit ∙ ap (step_at ports m) (c.follow.ensures.value m.links are.links)))
      ∙ c.loop-step.invariant ports are fit (suc k) whole;
}

pub loop-step-preserved : goal.loop-step-preserved
loop-step-preserved c = λ ports are fit k e.
    let m = c.args.module.now in
    let whole : suc k + c.loop-step._step ≡ 4 = omega arith in
    ap (λ v. option_map (differs v) (test_within ports m k c.args.event c.in-Some.step.input)) c.differs-inverse.ensures.value
    ∙ sym (tests_on ports m c.args.event c.loop-step.inverse c.loop-step.at k (step_as c.in-Some.step) (sym (c.meets.ensures.value m.links are.links) ∙ c.if-meets.false)
    (sym (ap (option_map step_as) c.in-Some.is) ∙ c.in_ok-step.ensures.value ports are fit ∙ ap (step_at ports m) (c.follow.ensures.value m.links are.links)))
    ∙ c.loop-step.invariant ports are fit (suc k) whole

pub returns : goal.returns
returns c = record {
  value = λ ports are fit.
      let m = c.args.module.now in
      let whole : 0 + c.loop-step._step ≡ 4 = omega arith in
      c.met.ensures.value
      ∙ ap (λ t. met t c.loop-step.inverse) (c.meets-2.ensures.value m.links are.links)
      ∙ tests_last ports m c.args.event c.loop-step.inverse c.loop-step.at
      ∙ c.loop-step.invariant ports are fit 0 whole;
}
