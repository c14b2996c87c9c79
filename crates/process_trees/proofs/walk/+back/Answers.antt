use Rattle.std.proofs.Common.{◌≡◌, ◌+◌, ◌-◌, ◌<◌, ◌≤◌, ◌++◌, drop, length, false, true, refl, sym, ap, ◌∙◌, arith, rules, subst}
use Rattle.rtl_ir.specs.Tree.{cases_of, switches_of}
use Rattle.process_trees.specs.declared.walk.Walk.{Walk}
use Rattle.process_trees.specs.Reach.{reach_cases, reach_switch, reach_switches}
use Rattle.process_trees.specs.Walk.{AreSet, Walked}
use Rattle.process_trees.proofs.Backward.{case_walked_whole, switches_step}
use Rattle.process_trees.proofs.Marking.{backs, by_all_is, marked_size, set_append, takes}
use Rattle.process_trees.proofs.Switches.{case_walked, cases_end, default_walked, none_before}
use Rattle.process_trees.proofs.Walks.{walked_as}
use Rattle.process_trees.proofs.walk.+back.Goals as goal

pub walk_case-loop-at-preserved : goal.walk_case-loop-at-preserved
walk_case-loop-at-preserved t c =
    let items = c.as_slice-switches.result.now in
    let next : c.loop-at.at ≡ c.loop-at.at - 1 + 1 = grind (arith, c.loop-at-test.true) in
    let inside : c.loop-at.at - 1 < length items = grind (arith, c.loop-at.auto.at, c.loop-at-test.true) in
    let so_far = subst (λ n. Walked c.args.numbers.now (λ b. reach_switches b (switches_of (drop n items))) c.args.walk.now c.loop-at.walk) next c.loop-at.invariant.walked in
    let more : c.extend_from_slice.new.self.items ≡ c.loop-at.set.items ++ c.in_ok-more.more.items = c.in_ok-extend_from_slice.ensures.items ∙ ap (λ ys. c.loop-at.set.items ++ ys) c.as_slice.ensures.value in
    record {
      walked = switches_step c.args.numbers.now items (c.loop-at.at - 1) c.index-switches-at.result inside c.index-switches-at.is c.args.walk.now c.loop-at.walk c.walk_switch.new.walk so_far c.in_ok-more.ensures.walked;
      set =
          subst (λ xs. AreSet xs c.args.walk.now.unset.items c.walk_switch.new.walk.unset.items) (sym more)
          (set_append c.loop-at.set.items c.in_ok-more.more.items c.args.walk.now.unset.items c.loop-at.walk.unset.items c.walk_switch.new.walk.unset.items c.loop-at.invariant.set c.in_ok-more.ensures.set);
    }

pub walk_case-returns-clause-walked : goal.walk_case-returns-clause-walked
walk_case-returns-clause-walked t c =
    let items = c.as_slice-switches.result.now in
    let first : c.loop-at.at ≡ 0 = grind (arith, c.loop-at-test.false) in
    let all : switches_of items ≡ c.args.case.now.switches = search (rules, c.case.view_is, c.as_slice-switches.ensures.value) in
    let same : c.as_slice-2.result.now ≡ c.args.case.now.assigns = search (rules, c.case.view_is, c.as_slice-2.ensures.value) in
    case_walked_whole c.args.numbers.now c.args.case.now items c.as_slice-2.result.now all same c.args.walk.now c.loop-at.walk c.walk_assigns.new.walk
    (subst (λ n. Walked c.args.numbers.now (λ b. reach_switches b (switches_of (drop n items))) c.args.walk.now c.loop-at.walk) first c.loop-at.invariant.walked) c.in_ok-walk_assigns.ensures.walked

pub walk_switch-loop-case-init : goal.walk_switch-loop-case-init
walk_switch-loop-case-init t c = none_before c.args.numbers.now c.deref-case-items.result.now c.args.walk.now

pub walk_switch-returns-then-is_default : goal.walk_switch-returns-then-is_default
walk_switch-returns-then-is_default t c =
    let items = c.deref-case-items.result.now in
    let before = c.loop-case.walk.unset.items in
    let behind = c.walk_case.new.walk in
    let whole : cases_of items ≡ c.args.switch.now.cases = search (rules, c.switch.view_is, c.deref-case-items.ensures.value) in
    let new : Walk = record { sources = behind.sources; unset = c.mark_all-then-is_default.new.unset } in
    let back = backs before behind.unset.items c.mark_all.new.unset.items c.in_ok-set.set.items _ c.in_ok-set.ensures.set c.in_ok-set.ensures.walked.size c.as_slice-in-loop-case-2.ensures.value c.mark_all.ensures.value in
    let size =
    marked_size c.mark_all.new.unset.items c.mark_all-then-is_default.new.unset.items c.as_slice-then-is_default.result.now false c.mark_all-then-is_default.ensures.value
    ∙ marked_size behind.unset.items c.mark_all.new.unset.items c.as_slice-in-loop-case-2.result.now true c.mark_all.ensures.value in
    let both =
    default_walked c.args.numbers.now items c.loop-case.case-index c.case-item.result c.loop-case-test.true c.case-item.is c.args.walk.now c.loop-case.walk behind c.loop-case.common c.in_ok-set.ensures.walked c.loop-case.invariant
    (c.is_default.ensures.yes c.if-is_default.true) c.in_ok-by_all.by_all
    (by_all_is c.in_ok-by_all.by_all.items c.in_ok-set.set.items _ before behind.unset.items _ c.loop-case.common c.as_slice-in-loop-case.ensures.value c.as_slice.ensures.value c.in_ok-set.ensures.set c.in_ok-by_all.ensures.value)
    new refl size
    (takes before c.mark_all.new.unset.items c.mark_all-then-is_default.new.unset.items c.in_ok-by_all.by_all.items _ back c.as_slice-then-is_default.ensures.value c.mark_all-then-is_default.ensures.value) in
    record {
      walked = walked_as c.args.numbers.now (λ b. reach_cases b (cases_of items)) (λ b. reach_switch b c.args.switch.now) c.args.walk.now new (λ b. ap (reach_cases b) whole) both.0;
      set = both.1;
    }

pub walk_switch-loop-case-preserved : goal.walk_switch-loop-case-preserved
walk_switch-loop-case-preserved t c =
    let items = c.deref-case-items.result.now in
    let before = c.loop-case.walk.unset.items in
    let behind = c.walk_case.new.walk in
    let back = backs before behind.unset.items c.mark_all.new.unset.items c.in_ok-set.set.items _ c.in_ok-set.ensures.set c.in_ok-set.ensures.walked.size c.as_slice-in-loop-case-2.ensures.value c.mark_all.ensures.value in
    case_walked c.args.numbers.now items c.loop-case.case-index c.case-item.result c.loop-case-test.true c.case-item.is c.args.walk.now c.loop-case.walk behind c.loop-case.common c.in_ok-set.ensures.walked c.loop-case.invariant
    (c.is_default.ensures.no c.if-is_default.false) c.in_ok-by_all.by_all
    (by_all_is c.in_ok-by_all.by_all.items c.in_ok-set.set.items _ before behind.unset.items _ c.loop-case.common c.as_slice-in-loop-case.ensures.value c.as_slice.ensures.value c.in_ok-set.ensures.set c.in_ok-by_all.ensures.value)
    (record { sources = behind.sources; unset = c.mark_all.new.unset }) refl (marked_size behind.unset.items c.mark_all.new.unset.items c.as_slice-in-loop-case-2.result.now true c.mark_all.ensures.value) back

pub walk_switch-returns-clause-walked : goal.walk_switch-returns-clause-walked
walk_switch-returns-clause-walked t c =
    let items = c.deref-case-items.result.now in
    let whole : cases_of items ≡ c.args.switch.now.cases = search (rules, c.switch.view_is, c.deref-case-items.ensures.value) in
    let past : length items ≤ c.loop-case.case-index = grind (arith, c.loop-case-test.false) in
    walked_as c.args.numbers.now (λ b. reach_cases b (cases_of items)) (λ b. reach_switch b c.args.switch.now) c.args.walk.now c.loop-case.walk (λ b. ap (reach_cases b) whole)
    (cases_end c.args.numbers.now items c.loop-case.case-index past c.args.walk.now c.loop-case.walk c.loop-case.common c.loop-case.invariant)
