use Rattle.std.proofs.Common.{◌+◌, ◌||◌, drop, sym, ◌∙◌, ap}
use Rattle.std.proofs.Math.ListN.{drop_of_length-le}
use Rattle.std.specs.Option.{is_some}
use Rattle.rtl_ir.specs.EventTests.{switch_test}
use Rattle.rtl_ir.specs.Faults.TwoEdges.{cases_test, switches_test}
use Rattle.rtl_ir.specs.Tree.{CaseView, SwitchView, cases_of, switches_of}
use Rattle.process_trees.proofs.Testing.{next_case, next_switch}
use Rattle.process_trees.proofs.tested.+tree.Goals as goal

pub case_tests-returns-then-branch : goal.case_tests-returns-then-branch
case_tests-returns-then-branch t c = record {
  value = λ ports are fit.
      let test = switch_test ports c.args.module.now c.args.event in
      let items = c.deref-switch-items.result.now in
      let inner = ap switches_of c.deref-switch-items.ensures.value ∙ ap (λ (x : CaseView). x.switches) c.case.view_is in
      ap (λ b. b || switches_test test (switches_of (drop (c.loop-switch.switch-index + 1) items))) (sym c.if-branch.true ∙ c.in_ok-switch_tests.ensures.value ports are fit)
      ∙ sym (next_switch test items c.loop-switch.switch-index c.switch-item.result c.loop-switch-test.true c.switch-item.is)
      ∙ c.loop-switch.invariant ports are fit
      ∙ ap (switches_test test) inner;
}

pub case_tests-loop-switch-preserved : goal.case_tests-loop-switch-preserved
case_tests-loop-switch-preserved t c = λ ports are fit.
    let test = switch_test ports c.args.module.now c.args.event in
    let items = c.deref-switch-items.result.now in
    ap (λ b. b || switches_test test (switches_of (drop (c.loop-switch.switch-index + 1) items))) (sym c.if-branch.false ∙ c.in_ok-switch_tests.ensures.value ports are fit)
    ∙ sym (next_switch test items c.loop-switch.switch-index c.switch-item.result c.loop-switch-test.true c.switch-item.is)
    ∙ c.loop-switch.invariant ports are fit

pub case_tests-returns : goal.case_tests-returns
case_tests-returns t c = record {
  value = λ ports are fit.
      let test = switch_test ports c.args.module.now c.args.event in
      let items = c.deref-switch-items.result.now in
      let inner = ap switches_of c.deref-switch-items.ensures.value ∙ ap (λ (x : CaseView). x.switches) c.case.view_is in
      ap (λ ss. switches_test test (switches_of ss)) (sym (drop_of_length-le items c.loop-switch-test.false))
      ∙ c.loop-switch.invariant ports are fit
      ∙ ap (switches_test test) inner;
}

pub switch_tests-returns-then-is_some : goal.switch_tests-returns-then-is_some
switch_tests-returns-then-is_some t c = record {
  value = λ ports are fit.
      let test = switch_test ports c.args.module.now c.args.event in
      ap (λ b. b || cases_test test c.args.switch.now.cases) (sym c.if-is_some.true ∙ c.is_some.ensures ∙ ap is_some (c.in_ok-switch_test.ensures.value ports are fit));
}

pub switch_tests-returns-then-branch : goal.switch_tests-returns-then-branch
switch_tests-returns-then-branch t c = record {
  value = λ ports are fit.
      let test = switch_test ports c.args.module.now c.args.event in
      let items = c.deref-case-items.result.now in
      let inner = ap cases_of c.deref-case-items.ensures.value ∙ ap (λ (x : SwitchView). x.cases) c.switch.view_is in
      ap (λ b. b || cases_test test (cases_of (drop (c.loop-case.case-index + 1) items))) (sym c.if-branch.true ∙ c.in_ok-case_tests.ensures.value ports are fit)
      ∙ sym (next_case test items c.loop-case.case-index c.case-item.result c.loop-case-test.true c.case-item.is)
      ∙ c.loop-case.invariant ports are fit
      ∙ ap (cases_test test) inner
      ∙ ap (λ b. b || cases_test test c.args.switch.now.cases) (sym c.if-is_some.false ∙ c.is_some.ensures ∙ ap is_some (c.in_ok-switch_test.ensures.value ports are fit));
}

pub switch_tests-loop-case-preserved : goal.switch_tests-loop-case-preserved
switch_tests-loop-case-preserved t c = λ ports are fit.
    let test = switch_test ports c.args.module.now c.args.event in
    let items = c.deref-case-items.result.now in
    ap (λ b. b || cases_test test (cases_of (drop (c.loop-case.case-index + 1) items))) (sym c.if-branch.false ∙ c.in_ok-case_tests.ensures.value ports are fit)
    ∙ sym (next_case test items c.loop-case.case-index c.case-item.result c.loop-case-test.true c.case-item.is)
    ∙ c.loop-case.invariant ports are fit

pub switch_tests-returns : goal.switch_tests-returns
switch_tests-returns t c = record {
  value = λ ports are fit.
      let test = switch_test ports c.args.module.now c.args.event in
      let items = c.deref-case-items.result.now in
      let inner = ap cases_of c.deref-case-items.ensures.value ∙ ap (λ (x : SwitchView). x.cases) c.switch.view_is in
      ap (λ cs. cases_test test (cases_of cs)) (sym (drop_of_length-le items c.loop-case-test.false))
      ∙ c.loop-case.invariant ports are fit
      ∙ ap (cases_test test) inner
      ∙ ap (λ b. b || cases_test test c.args.switch.now.cases) (sym c.if-is_some.false ∙ c.is_some.ensures ∙ ap is_some (c.in_ok-switch_test.ensures.value ports are fit));
}
