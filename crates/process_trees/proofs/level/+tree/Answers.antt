use Rattle.std.proofs.Common.{◌≡◌, ◌≤◌, true, false, [], ◌∷◌, ◌++◌, None, Some, length, sym, ◌∙◌, ap, arith}
use Rattle.rtl_ir.specs.EventTests.{switch_test}
use Rattle.rtl_ir.specs.Faults.TwoEdges.{tested_bit}
use Rattle.rtl_ir.specs.Tree.{CaseView, cases_of}
use Rattle.net_model.specs.Proc.Reset.{is_taken}
use Rattle.process_trees.specs.Levels.{case_at, open_case, switch_at}
use Rattle.process_trees.proofs.Leveling.{case_passed, case_taken, case_whole, cases_held, cases_map, made_all, made_next, none_taken, switch_made, switch_tested}
use Rattle.process_trees.proofs.level.+tree.Goals as goal

pub decided_case-loop-switch-preserved : goal.decided_case-loop-switch-preserved
decided_case-loop-switch-preserved t c = λ ports are fit.
    made_next (switch_at (switch_test ports c.args.by.now.«module».now c.args.by.now.event) c.args.by.now.level) c.deref-switch-items.result.now c.loop-switch.switch-index c.switch-item.result c.loop-switch-test.true c.switch-item.is
    c.loop-switch.switches.items c.push.new.self.items c.in_ok-decided_switch.field-0 c.in_ok-push.ensures.items (c.in_ok-decided_switch.ensures.value ports are fit) (c.loop-switch.invariant ports are fit)

pub decided_case-returns : goal.decided_case-returns
decided_case-returns t c = record {
  value = λ ports are fit.
      let test = switch_test ports c.args.by.now.«module».now c.args.by.now.event in
      let past : length c.deref-switch-items.result.now ≤ c.loop-switch.switch-index = omega arith in
      case_whole test c.args.by.now.level c.patterns.inside.items.items c.args.patterns c.in_ok-copy.field-0 c.case.inside.switches.items c.deref-switch-items.result.now c.loop-switch.switches.items c.in_ok-copy-2.field-0
      c.case.inside.patterns c.case.inside.assigns c.case.inside.attributes c.args.case.now c.patterns.view_is c.in_ok-copy.ensures.value c.in_ok-copy-2.ensures.value c.deref-switch-items.ensures.value
      (made_all (switch_at test c.args.by.now.level) c.deref-switch-items.result.now c.loop-switch.switch-index past c.loop-switch.switches.items (c.loop-switch.invariant ports are fit)) c.case.view_is;
}

pub decided_switch-returns-in-None : goal.decided_switch-returns-in-None
decided_switch-returns-in-None t c = record {
  value = λ ports are fit.
      switch_tested (switch_test ports c.args.by.now.«module».now c.args.by.now.event) c.args.by.now.level None c.args.switch.now c.open_switch.result
      (sym c.in-None.is ∙ c.in_ok-switch_test.ensures.value ports are fit) (c.open_switch.ensures.value ports are fit);
}

pub decided_switch-returns-in-Some : goal.decided_switch-returns-in-Some
decided_switch-returns-in-Some t c = record {
  value = λ ports are fit.
      switch_tested (switch_test ports c.args.by.now.«module».now c.args.by.now.event) c.args.by.now.level (Some c.in-Some.inverse) c.args.switch.now c.taken_switch.result
      (sym c.in-Some.is ∙ c.in_ok-switch_test.ensures.value ports are fit) (c.taken_switch.ensures.value ports are fit);
}

pub open_switch-loop-case-preserved : goal.open_switch-loop-case-preserved
open_switch-loop-case-preserved t c = λ ports are fit.
    let test = switch_test ports c.args.by.now.«module».now c.args.by.now.event in
    made_next (open_case test c.args.by.now.level) c.deref-case-items.result.now c.loop-case.case-index c.case-item.result c.loop-case-test.true c.case-item.is
    c.loop-case.cases.items c.push.new.self.items c.in_ok-decided_case.field-0 c.in_ok-push.ensures.items
    (c.in_ok-decided_case.ensures.value ports are fit ∙ ap (λ ps. case_at test c.args.by.now.level ps c.case-item.result) (c.in_ok-copy.ensures.value ∙ ap (λ (x : CaseView). x.patterns) c.case.view_is))
    (c.loop-case.invariant ports are fit)

pub open_switch-returns : goal.open_switch-returns
open_switch-returns t c = record {
  value = λ ports are fit.
      let test = switch_test ports c.args.by.now.«module».now c.args.by.now.event in
      let level = c.args.by.now.level in
      let past : length c.deref-case-items.result.now ≤ c.loop-case.case-index = omega arith in
      switch_made test level None c.args.switch.now _ c.with_cases.result c.with_cases.ensures.value
      (ap cases_of (made_all (open_case test level) c.deref-case-items.result.now c.loop-case.case-index past c.loop-case.cases.items (c.loop-case.invariant ports are fit))
      ∙ sym (cases_map test level c.deref-case-items.result.now)
      ∙ cases_held test level None c.switch.inside.cases.items c.deref-case-items.result.now _ _ c.args.switch.now c.deref-case-items.ensures.value c.switch.view_is);
}

pub taken_switch-returns-then-is_taken : goal.taken_switch-returns-then-is_taken
taken_switch-returns-then-is_taken t c = record {
  value = λ ports are fit.
      let test = switch_test ports c.args.by.now.«module».now c.args.by.now.event in
      let level = c.args.by.now.level in
      let taken : true ≡ is_taken (tested_bit level c.args.inverse) c.case-item.result.patterns =
      sym c.if-is_taken.true ∙ c.is_taken.ensures.value ∙ (λ i. is_taken (c.tested_bit-bit.ensures.value i) ((c.as_slice.ensures.value ∙ ap (λ (x : CaseView). x.patterns) c.case.view_is) i)) in
      switch_made test level (Some c.args.inverse) c.args.switch.now _ c.with_cases.result c.with_cases.ensures.value
      (case_taken test level c.args.inverse c.deref-case-items.result.now c.loop-case.case-index c.case-item.result c.loop-case-test.true c.case-item.is taken c.push.new.self.items c.in_ok-decided_case.field-0
      (c.in_ok-push.ensures.items ∙ ap (λ xs. xs ++ c.in_ok-decided_case.field-0 ∷ []) c.loop-case.invariant.none)
      (c.in_ok-decided_case.ensures.value ports are fit ∙ ap (λ ps. case_at test level ps c.case-item.result) c.make.ensures.value) _ (c.loop-case.invariant.left test)
      ∙ cases_held test level (Some c.args.inverse) c.switch.inside.cases.items c.deref-case-items.result.now _ _ c.args.switch.now c.deref-case-items.ensures.value c.switch.view_is);
}

pub taken_switch-loop-case-preserved : goal.taken_switch-loop-case-preserved
taken_switch-loop-case-preserved t c = record {
  none = c.loop-case.invariant.none;
  left = λ test.
      let passed : false ≡ is_taken (tested_bit c.args.by.now.level c.args.inverse) c.case-item.result.patterns =
      sym c.if-is_taken.false ∙ c.is_taken.ensures.value ∙ (λ i. is_taken (c.tested_bit-bit.ensures.value i) ((c.as_slice.ensures.value ∙ ap (λ (x : CaseView). x.patterns) c.case.view_is) i)) in
      case_passed test c.args.by.now.level c.args.inverse c.deref-case-items.result.now c.loop-case.case-index c.case-item.result c.loop-case-test.true c.case-item.is passed _ (c.loop-case.invariant.left test);
}

pub taken_switch-returns : goal.taken_switch-returns
taken_switch-returns t c = record {
  value = λ ports are fit.
      let test = switch_test ports c.args.by.now.«module».now c.args.by.now.event in
      let level = c.args.by.now.level in
      let past : length c.deref-case-items.result.now ≤ c.loop-case.case-index = omega arith in
      switch_made test level (Some c.args.inverse) c.args.switch.now _ c.with_cases-2.result c.with_cases-2.ensures.value
      (none_taken test level c.args.inverse c.deref-case-items.result.now c.loop-case.case-index past c.loop-case.cases.items c.loop-case.invariant.none _ (c.loop-case.invariant.left test)
      ∙ cases_held test level (Some c.args.inverse) c.switch.inside.cases.items c.deref-case-items.result.now _ _ c.args.switch.now c.deref-case-items.ensures.value c.switch.view_is);
}
