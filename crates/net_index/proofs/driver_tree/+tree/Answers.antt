use Rattle.std.proofs.Common.{◌≡◌, ◌++◌, sym, ◌∙◌, ap}
use Rattle.rtl_ir.specs.Tree.{CaseView, SwitchView}
use Rattle.net_index.specs.declared.driver_rules.Reading.TheVariants.{Kept, Last}
use Rattle.net_index.specs.DriverRules.{constants_after, reading_of}
use Rattle.net_index.proofs.DriverTrees.{case_goes, case_last, kept_is, switch_cases}
use Rattle.net_index.proofs.driver_tree.+tree.Goals as goal

pub put_switch-returns-in-Last : goal.put_switch-returns-in-Last
put_switch-returns-in-Last t c = record {
  ok =
      let signal = c.as_slice.ensures.value ∙ ap (λ (s : SwitchView). s.signal) c.switch.view_is in
      let patterns = c.as_slice-in-loop-case.ensures.value ∙ ap (λ (x : CaseView). x.patterns) c.case.view_is in
      let reading : Last ≡ reading_of c.args.switch.now.signal c.loop-case.earlier.items c.case-item.result.patterns =
      sym c.in-Last.is ∙ c.in_ok-reading.ensures.value ∙ (λ i. reading_of (signal i) c.loop-case.earlier.items (patterns i)) in
      case_last c.args.switch.now.signal c.loop-case.earlier.items c.deref-case-items.result.now c.loop-case.case-index c.case-item.result c.loop-case-test.true c.case-item.is reading
      c.loop-case.bits.items c.put_case.new.bits.items _ c.in_ok-put_case.ensures.ok c.loop-case.invariant
      ∙ ap (λ bits. c.args.bits.now.items ++ bits) (switch_cases c.switch.inside.cases.items c.deref-case-items.result.now _ _ c.args.switch.now c.deref-case-items.ensures.value c.switch.view_is);
}

pub put_switch-loop-case-preserved : goal.put_switch-loop-case-preserved
put_switch-loop-case-preserved t c =
    let signal = c.as_slice.ensures.value ∙ ap (λ (s : SwitchView). s.signal) c.switch.view_is in
    let patterns = c.as_slice-in-loop-case.ensures.value ∙ ap (λ (x : CaseView). x.patterns) c.case.view_is in
    let reading : Kept ≡ reading_of c.args.switch.now.signal c.loop-case.earlier.items c.case-item.result.patterns =
    kept_is c.in_ok-reading.reading c.in_default.not-Dropped c.in_default-reading.not-Last ∙ c.in_ok-reading.ensures.value ∙ (λ i. reading_of (signal i) c.loop-case.earlier.items (patterns i)) in
    let after : c.read_case.new.earlier.items ≡ constants_after c.args.switch.now.signal c.loop-case.earlier.items c.case-item.result.patterns =
    c.in_ok-reading.ensures.earlier ∙ (λ i. constants_after (signal i) c.loop-case.earlier.items (patterns i)) in
    case_goes c.args.switch.now.signal c.loop-case.earlier.items c.read_case.new.earlier.items c.deref-case-items.result.now c.loop-case.case-index c.case-item.result c.loop-case-test.true c.case-item.is reading after
    c.loop-case.bits.items c.put_case.new.bits.items _ c.in_ok-put_case.ensures.ok c.loop-case.invariant
