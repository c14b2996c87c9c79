use Rattle.std.proofs.Common.{◌≡◌, ◌≤◌, length, sym, ◌∙◌, ap, arith}
use Rattle.rtl_ir.specs.SwitchRules.{switches_by_rules}
use Rattle.rtl_ir.specs.Tree.{CaseView, SwitchView, switches_of}
use Rattle.process_trees.specs.declared.reading.Reading.TheVariants.{Last}
use Rattle.process_trees.specs.Reading.{constants_after, reading_of, ruled_case}
use Rattle.process_trees.proofs.TreeReading.{case_goes, case_last, case_stays, cases_end, ruled_whole, switch_cases, switch_made, switch_next, switches_end}
use Rattle.process_trees.proofs.by_rules.+tree.Goals as goal
use Rattle.process_trees.proofs.by_rules.+tree.Goals.{ruled_switch-in-Dropped, ruled_switch-in-Kept+in_ok-ruled_case-in-Kept+in_ok-push-in-Kept}

pub ruled_case-loop-switch-preserved : goal.ruled_case-loop-switch-preserved
ruled_case-loop-switch-preserved t c =
    switch_next c.deref-switch-items.result.now c.loop-switch.switch-index c.switch-item.result c.loop-switch-test.true c.switch-item.is
    c.loop-switch.switches.items c.push.new.self.items c.in_ok-ruled_switch.field-0 c.in_ok-push.ensures.items c.in_ok-ruled_switch.ensures.value _ c.loop-switch.invariant

pub ruled_case-returns : goal.ruled_case-returns
ruled_case-returns t c =
    let past : length c.deref-switch-items.result.now ≤ c.loop-switch.switch-index = omega arith in
    record {
      value =
          ruled_whole c.patterns.inside.items.items c.args.patterns c.in_ok-copy.field-0 c.loop-switch.switches.items c.in_ok-copy-2.field-0 c.args.case.now
          c.patterns.view_is
          (c.in_ok-copy.ensures.value ∙ ap (λ (x : CaseView). x.assigns) c.case.view_is)
          (switches_end c.deref-switch-items.result.now c.loop-switch.switch-index past c.loop-switch.switches.items _ c.loop-switch.invariant
          ∙ ap (λ ss. switches_by_rules (switches_of ss)) c.deref-switch-items.ensures.value ∙ ap (λ (x : CaseView). switches_by_rules x.switches) c.case.view_is)
          (c.in_ok-copy-2.ensures.value ∙ ap (λ (x : CaseView). x.attributes) c.case.view_is);
    }

pub ruled_switch-returns-in-Last : goal.ruled_switch-returns-in-Last
ruled_switch-returns-in-Last t c =
    let signal = c.as_slice.ensures.value ∙ ap (λ (s : SwitchView). s.signal) c.switch.view_is in
    let patterns = c.as_slice-in-loop-case.ensures.value ∙ ap (λ (x : CaseView). x.patterns) c.case.view_is in
    let reading : Last ≡ reading_of c.args.switch.now.signal c.loop-case.earlier.items c.case-item.result.patterns =
    sym c.in-Last.is ∙ c.in_ok-reading.ensures.value ∙ (λ i. reading_of (signal i) c.loop-case.earlier.items (patterns i)) in
    record {
      value =
          switch_made c.with_cases.result c.args.switch.now _ c.with_cases.ensures.value
          (case_last c.args.switch.now.signal c.loop-case.earlier.items c.deref-case-items.result.now c.loop-case.case-index c.case-item.result c.loop-case-test.true c.case-item.is reading
          c.loop-case.cases.items c.push-in-Last.new.self.items c.in_ok-ruled_case-in-Last.field-0 c.in_ok-push-in-Last.ensures.items (c.in_ok-ruled_case-in-Last.ensures.value ∙ ap (λ ps. ruled_case ps c.case-item.result) c.make.ensures.value) _ c.loop-case.invariant
          ∙ switch_cases c.switch.inside.cases.items c.deref-case-items.result.now _ _ c.args.switch.now c.deref-case-items.ensures.value c.switch.view_is);
    }

pub ruled_switch-loop-case-preserved : goal.ruled_switch-loop-case-preserved
ruled_switch-loop-case-preserved t c =
    let signal = c.as_slice.ensures.value ∙ ap (λ (s : SwitchView). s.signal) c.switch.view_is in
    let patterns = c.as_slice-in-loop-case.ensures.value ∙ ap (λ (x : CaseView). x.patterns) c.case.view_is in
    let after : c.read_case.new.earlier.items ≡ constants_after c.args.switch.now.signal c.loop-case.earlier.items c.case-item.result.patterns =
    c.in_ok-reading.ensures.earlier ∙ (λ i. constants_after (signal i) c.loop-case.earlier.items (patterns i)) in
    let reading : c.in_ok-reading.reading ≡ reading_of c.args.switch.now.signal c.loop-case.earlier.items c.case-item.result.patterns =
    c.in_ok-reading.ensures.value ∙ (λ i. reading_of (signal i) c.loop-case.earlier.items (patterns i)) in
    elim c.match-reading.branch [
      | ruled_switch-in-Dropped w ↦ case_goes c.args.switch.now.signal c.loop-case.earlier.items c.deref-case-items.result.now c.loop-case.case-index c.case-item.result c.loop-case-test.true c.case-item.is
          (sym w.in-Dropped.is ∙ reading) c.read_case.new.earlier.items after c.loop-case.cases.items c.match-reading.cases.items (λ i. (w.cases-is i).items) _ c.loop-case.invariant
      | ruled_switch-in-Kept+in_ok-ruled_case-in-Kept+in_ok-push-in-Kept w ↦ case_stays c.args.switch.now.signal c.loop-case.earlier.items c.deref-case-items.result.now c.loop-case.case-index c.case-item.result c.loop-case-test.true c.case-item.is
          w.in-Kept.patterns (sym w.in-Kept.is ∙ reading) c.read_case.new.earlier.items after c.loop-case.cases.items c.match-reading.cases.items w.in_ok-ruled_case-in-Kept.field-0 ((λ i. (w.cases-is i).items) ∙ w.in_ok-push-in-Kept.ensures.items) w.in_ok-ruled_case-in-Kept.ensures.value _ c.loop-case.invariant
    ]

pub ruled_switch-returns : goal.ruled_switch-returns
ruled_switch-returns t c =
    let past : length c.deref-case-items.result.now ≤ c.loop-case.case-index = omega arith in
    record {
      value =
          switch_made c.with_cases-2.result c.args.switch.now _ c.with_cases-2.ensures.value
          (cases_end c.args.switch.now.signal c.loop-case.earlier.items c.deref-case-items.result.now c.loop-case.case-index past c.loop-case.cases.items _ c.loop-case.invariant
          ∙ switch_cases c.switch.inside.cases.items c.deref-case-items.result.now _ _ c.args.switch.now c.deref-case-items.ensures.value c.switch.view_is);
    }
