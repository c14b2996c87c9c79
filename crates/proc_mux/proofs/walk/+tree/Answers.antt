use Rattle.std.proofs.Common.{length, rules, arith, sym, ap, subst, ◌∙◌, ◌≡◌, ◌<◌, ◌-◌, ◌+◌, drop}
use Rattle.rtl_ir.specs.Tree.{CaseView, SwitchView, cases_depth, cases_of, switches_depth, switches_of}
use Rattle.match_cells.specs.Numbers.{HasCases, HasSwitches}
use Rattle.match_cells.specs.Trees.{seen}
use Rattle.match_cells.proofs.NodeRows.{case_deep, case_table, entry_is, node_is, nodes_length, switch_deep}
use Rattle.proc_mux.proofs.Walking.{body_over, case_goes, case_over, cases_end, has_switch, switch_goes, switch_over, switches_end}
use Rattle.proc_mux.proofs.walk.+tree.Goals as goal

pub case_value-returns-in_err-body-clause-over : goal.case_value-returns-in_err-body-clause-over
case_value-returns-in_err-body-clause-over t c e =
    let inner : switches_of c.as_slice.result.now ≡ c.args.case.now.switches = ap switches_of c.as_slice.ensures.value ∙ ap (λ (x : CaseView). x.switches) c.case.view_is in
    body_over c.args.by.now.given.now c.args.node c.args.entered.now.signal.now c.args.case.now.patterns c.args.case.now.switches c.args.entered.now.prior.now c.args.acc c.in_ok-start.start (seen c.args.trees.now)
    c.in_ok-start.ensures.value _ inner (search (rules, c.switches_value.ensures.over, e, c.from_residual-in_err-body.ensures))

pub cases_value-loop-at-init : goal.cases_value-loop-at-init
cases_value-loop-at-init t c = record {
  all =
      ap (λ v. (v, seen c.args.trees.now)) c.in_ok-value.ensures.value
      ∙ cases_end c.args.by.now.given.now c.args.node c.args.signal.now c.args.prior (seen c.args.trees.now) c.args.cases.now (length c.args.cases.now) (omega arith);
  within = λ h. h;
}

pub cases_value-bounds-nodes-at : goal.cases_value-bounds-nodes-at
cases_value-bounds-nodes-at t c =
    omega (arith, nodes_length c.args.node c.args.cases.now, ap length c.as_slice-nodes.ensures.value, ap length c.in_ok-nodes.ensures.value)

pub cases_value-case_value-requires : goal.cases_value-case_value-requires
cases_value-case_value-requires t c =
    let h : c.loop-at.at - 1 < length c.args.cases.now = omega arith in
    let both = case_table c.args.by.now.table.now c.args.node c.args.cases.now (c.loop-at.at - 1) c.index-cases-at.result h c.index-cases-at.is c.as_slice-nodes.result.now 0 (c.as_slice-nodes.ensures.value ∙ c.in_ok-nodes.ensures.value) c.requires.table in
    let deep = case_deep c.args.cases.now (c.loop-at.at - 1) c.index-cases-at.result h c.index-cases-at.is in
    (omega (arith, deep, c.decreases), (both.0, both.1))

pub switches_value-switch_value-requires : goal.switches_value-switch_value-requires
switches_value-switch_value-requires t c =
    let has = has_switch c.args.by.now.given.now c.args.switches.now c.loop-switch.switch-index c.switch-item.result c.loop-switch-test.true c.switch-item.is c.args.by.now.table.now c.loop-switch.node c.loop-switch.invariant.has in
    let deep = switch_deep c.args.switches.now c.loop-switch.switch-index c.switch-item.result c.loop-switch-test.true c.switch-item.is in
    (omega (arith, deep, c.decreases), (has.0, has.1.0))

pub switch_value-cases_value-requires : goal.switch_value-cases_value-requires
switch_value-cases_value-requires t c =
    let inner : cases_of c.as_slice.result.now ≡ c.args.switch.now.cases = ap cases_of c.as_slice.ensures.value ∙ ap (λ (x : SwitchView). x.cases) c.switch.view_is in
    (omega (arith, ap cases_depth inner, c.decreases), subst (λ cs. HasCases c.args.by.now.table.now (c.args.node + 1) cs) (sym inner) c.requires.table)

pub case_value-switches_value-requires : goal.case_value-switches_value-requires
case_value-switches_value-requires t c =
    let inner : switches_of c.as_slice.result.now ≡ c.args.case.now.switches = ap switches_of c.as_slice.ensures.value ∙ ap (λ (x : CaseView). x.switches) c.case.view_is in
    (omega (arith, ap switches_depth inner, c.decreases), subst (λ ss. HasSwitches c.args.by.now.table.now (c.args.node + 1) ss) (sym inner) c.requires.table)

pub cases_value-returns-in_err-value-2-clause-over : goal.cases_value-returns-in_err-value-2-clause-over
cases_value-returns-in_err-value-2-clause-over t c e =
    let h : c.loop-at.at - 1 < length c.args.cases.now = omega arith in
    let next : c.loop-at.at ≡ (c.loop-at.at - 1) + 1 = omega arith in
    let is = node_is c.args.node c.args.cases.now (c.loop-at.at - 1) 0 c.as_slice-nodes.result.now h (c.as_slice-nodes.ensures.value ∙ c.in_ok-nodes.ensures.value) in
    case_over c.args.by.now.given.now c.args.node c.args.signal.now c.args.prior (seen c.args.trees.now) c.args.cases.now (c.loop-at.at - 1) c.index-cases-at.result h c.index-cases-at.is
    c.loop-at.at _ c.as_slice.result.now next is c.as_slice.ensures.value c.loop-at.value (seen c.loop-at.trees) c.loop-at.invariant.all
    (search (rules, c.case_value.ensures.over, e, c.from_residual-in_err-value-2.ensures))

pub cases_value-loop-at-preserved : goal.cases_value-loop-at-preserved
cases_value-loop-at-preserved t c =
    let h : c.loop-at.at - 1 < length c.args.cases.now = omega arith in
    let next : c.loop-at.at ≡ (c.loop-at.at - 1) + 1 = omega arith in
    let is = node_is c.args.node c.args.cases.now (c.loop-at.at - 1) 0 c.as_slice-nodes.result.now h (c.as_slice-nodes.ensures.value ∙ c.in_ok-nodes.ensures.value) in
    record {
      all =
          case_goes c.args.by.now.given.now c.args.node c.args.signal.now c.args.prior (seen c.args.trees.now) c.args.cases.now (c.loop-at.at - 1) c.index-cases-at.result h c.index-cases-at.is
          c.loop-at.at _ c.as_slice.result.now next is c.as_slice.ensures.value c.loop-at.value (seen c.loop-at.trees) c.loop-at.invariant.all _ c.in_ok-value-2.ensures.exact;
      within = λ few. c.in_ok-value-2.ensures.within (c.loop-at.invariant.within few);
    }

pub switches_value-returns-in_err-value-clause-over : goal.switches_value-returns-in_err-value-clause-over
switches_value-returns-in_err-value-clause-over t c e =
    switch_over c.args.by.now.given.now c.args.switches.now c.loop-switch.switch-index c.switch-item.result c.loop-switch-test.true c.switch-item.is
    c.loop-switch.node c.loop-switch.value (seen c.loop-switch.trees) _ c.loop-switch.invariant.all
    (search (rules, c.switch_value.ensures.over, e, c.from_residual.ensures))

pub switches_value-loop-switch-preserved : goal.switches_value-loop-switch-preserved
switches_value-loop-switch-preserved t c =
    let has = has_switch c.args.by.now.given.now c.args.switches.now c.loop-switch.switch-index c.switch-item.result c.loop-switch-test.true c.switch-item.is c.args.by.now.table.now c.loop-switch.node c.loop-switch.invariant.has in
    let is = entry_is c.args.by.now.table.now c.loop-switch.node c.behind-node.result _ has.0 c.behind-node.ensures.value in
    record {
      all =
          switch_goes c.args.by.now.given.now c.args.switches.now c.loop-switch.switch-index c.switch-item.result c.loop-switch-test.true c.switch-item.is
          c.loop-switch.node c.behind-node.result c.loop-switch.value c.in_ok-value.value (seen c.loop-switch.trees) (seen c.switch_value.new.trees) _ is c.in_ok-value.ensures.exact c.loop-switch.invariant.all;
      has = subst (λ m. HasSwitches c.args.by.now.table.now m (switches_of (drop (c.loop-switch.switch-index + 1) c.args.switches.now))) (sym is) has.1.1;
      within = λ few. c.in_ok-value.ensures.within (c.loop-switch.invariant.within few);
    }

pub switches_value-returns-clause-exact : goal.switches_value-returns-clause-exact
switches_value-returns-clause-exact t c =
    switches_end c.args.by.now.given.now c.args.switches.now c.loop-switch.switch-index c.loop-switch.node (omega arith) c.loop-switch.value (seen c.loop-switch.trees) _ c.loop-switch.invariant.all
