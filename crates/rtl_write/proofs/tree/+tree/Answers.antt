use Rattle.std.proofs.Common.{◌∙◌, ap}
use Rattle.rtl_write.proofs.TreeLemmas.{switch_goes, switches_end, body_is, case_goes, cases_end, switch_is}
use Rattle.rtl_write.specs.Text.{deeper}
use Rattle.rtl_write.proofs.tree.+tree.Goals as goal

pub put_case_body-loop-switch-preserved : goal.put_case_body-loop-switch-preserved
put_case_body-loop-switch-preserved t c =
    rw c.in_ok-put_switch.ensures.ok (switch_goes _ _ _ _ c.deref-switch-items.result.now _ _ c.loop-switch-test.true c.switch-item.is c.loop-switch.invariant)

pub put_case_body-returns : goal.put_case_body-returns
put_case_body-returns t c = record {
  ok = body_is _ _ _ _ _ _ _ _ _ _ _ _
      (switches_end _ _ _ _ c.deref-switch-items.result.now _ c.loop-switch-test.false c.loop-switch.invariant)
      c.in_ok-put_assigns.ensures.ok c.deref-switch-items.ensures.value c.as_slice.ensures.value c.case.view_is;
}

pub put_switch-loop-case-preserved : goal.put_switch-loop-case-preserved
put_switch-loop-case-preserved t c =
    rw (c.in_ok-put_case_body.ensures.ok, c.in_ok-put_case_head.ensures.ok)
    (case_goes _ _ _ _ _ _ c.deref-case-items.result.now _ _ c.loop-case-test.true c.case-item.is
    c.as_slice-in-loop-case.ensures.value
    (c.as_slice-in-loop-case-2.ensures.value ∙ c.in_ok-innermost.ensures.value ∙ ap deeper c.as_slice-2.ensures.value)
    c.loop-case.invariant)

pub put_switch-returns : goal.put_switch-returns
put_switch-returns t c = record {
  ok = switch_is _ _ _ _ _ _ _ _ c.deref-case-items.result.now _ _ _ _ _
      c.in_ok-extend-2.ensures.ok c.in_ok-extend.ensures.ok
      (cases_end _ _ _ _ c.deref-case-items.result.now _ c.loop-case-test.false c.loop-case.invariant)
      c.in_ok-put_switch_head.ensures.ok c.in_ok-inner.ensures.value c.deref-case-items.ensures.value c.as_slice.ensures.value c.switch.view_is;
}
