use Rattle.std.proofs.Common.{◌≡◌, ◌≤◌, length, ◌∙◌, ap, arith}
use Rattle.std.specs.Prelude.{slice_set}
use Rattle.rtl_ir.specs.Tree.{CaseView, SwitchView, cases_of, switches_of}
use Rattle.match_cells.proofs.Numbering.{case_closed, case_put, switch_closed, switch_put}
use Rattle.match_cells.proofs.numbers.+nodes.Goals as goal

pub put_case-loop-switch-preserved : goal.put_case-loop-switch-preserved
put_case-loop-switch-preserved t c =
    switch_put c.deref-switch-items.result.now c.loop-switch.switch-index c.switch-item.result c.loop-switch-test.true c.switch-item.is
    c.loop-switch.table.items c.put_switch.new.table.items _ c.in_ok-put_switch.ensures.ok c.loop-switch.invariant

pub put_case-returns : goal.put_case-returns
put_case-returns t c =
    let past : length c.deref-switch-items.result.now ≤ c.loop-switch.switch-index = omega arith in
    let are : switches_of c.deref-switch-items.result.now ≡ c.args.case.now.switches = ap switches_of c.deref-switch-items.ensures.value ∙ ap (λ (x : CaseView). x.switches) c.case.view_is in
    let node : c.len-node.result ≡ length c.args.table.now.items = omega (arith, c.len-node.ensures, c.args.table.now.ok) in
    record {
      ok =
          case_closed c.args.table.now.items c.push.new.self.items c.loop-switch.table.items c.close.new.table.items c.deref-switch-items.result.now c.args.case.now c.loop-switch.switch-index past
          c.in_ok-push.ensures.items c.loop-switch.invariant are
          (c.close.ensures.value ∙ ap (λ n. slice_set c.loop-switch.table.items n (length c.loop-switch.table.items)) node);
    }

pub put_switch-loop-case-preserved : goal.put_switch-loop-case-preserved
put_switch-loop-case-preserved t c =
    case_put c.deref-case-items.result.now c.loop-case.case-index c.case-item.result c.loop-case-test.true c.case-item.is
    c.loop-case.table.items c.put_case.new.table.items _ c.in_ok-put_case.ensures.ok c.loop-case.invariant

pub put_switch-returns : goal.put_switch-returns
put_switch-returns t c =
    let past : length c.deref-case-items.result.now ≤ c.loop-case.case-index = omega arith in
    let are : cases_of c.deref-case-items.result.now ≡ c.args.switch.now.cases = ap cases_of c.deref-case-items.ensures.value ∙ ap (λ (x : SwitchView). x.cases) c.switch.view_is in
    let node : c.len-node.result ≡ length c.args.table.now.items = omega (arith, c.len-node.ensures, c.args.table.now.ok) in
    record {
      ok =
          switch_closed c.args.table.now.items c.push.new.self.items c.loop-case.table.items c.close.new.table.items c.deref-case-items.result.now c.args.switch.now c.loop-case.case-index past
          c.in_ok-push.ensures.items c.loop-case.invariant are
          (c.close.ensures.value ∙ ap (λ n. slice_set c.loop-case.table.items n (length c.loop-case.table.items)) node);
    }
