use Rattle.std.proofs.Common.{◌∙◌, ◌++◌, ap, refl}
use Rattle.rtl_ir.specs.Tree.{cases_of, switches_of}
use Rattle.process_check.specs.Readings.{case_edges, cases_edges, switch_edges, switches_edges}
use Rattle.process_check.proofs.Among.{put_next}
use Rattle.process_check.proofs.readings.+tree.Goals as goal

pub put_case-loop-switch-preserved : goal.put_case-loop-switch-preserved
put_case-loop-switch-preserved t c = λ bits are.
    put_next (λ ss. switches_edges bits c.args.signals.now (switches_of ss)) (switch_edges bits c.args.signals.now) (λ s ss. refl) c.deref-switch-items.result.now c.loop-switch.switch-index c.switch-item.result
    c.loop-switch-test.true c.switch-item.is c.loop-switch.edges.items c.put_switch.new.edges.items _ (c.in_ok-put_switch.ensures.ok bits are) (c.loop-switch.invariant bits are)

pub put_switch-loop-case-preserved : goal.put_switch-loop-case-preserved
put_switch-loop-case-preserved t c = λ bits are.
    put_next (λ cs. cases_edges bits c.put_numbers.new.all.items (cases_of cs)) (case_edges bits c.put_numbers.new.all.items) (λ x cs. refl) c.deref-case-items.result.now c.loop-case.case-index c.case-item.result
    c.loop-case-test.true c.case-item.is c.loop-case.edges.items c.put_case.new.edges.items _
    (c.in_ok-put_case.ensures.ok bits are ∙ ap (λ ns. c.loop-case.edges.items ++ case_edges bits ns c.case-item.result) c.as_slice-in-loop-case.ensures.value) (c.loop-case.invariant bits are)
