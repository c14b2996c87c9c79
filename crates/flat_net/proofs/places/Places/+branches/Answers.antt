use Rattle.std.proofs.Common.{◌≡◌, ◌∙◌, [], ap, subst, sym}
use Rattle.std.proofs.lemmas.List.{take_all}
use Rattle.rtl_ir.specs.Flat.Point.{points}
use Rattle.rtl_ir.specs.Follow.{all_joins}
use Rattle.rtl_ir.specs.Tree.{CaseView, SwitchView, cases_of, switches_of}
use Rattle.flat_net.specs.Reads.{ArePoints}
use Rattle.flat_net.specs.Trees.{AreBranches, AreChoices, IsBranchAt, IsChoice}
use Rattle.flat_net.proofs.Branching.{AreBranches-next, AreBranches-none, AreChoices-next, AreChoices-none, branch_made, choice_made}
use Rattle.flat_net.proofs.Kept.{within-Keeps}
use Rattle.flat_net.proofs.Reading.{Extends-refl, Extends-then}
use Rattle.flat_net.proofs.places.Places.+branches.Goals as goal

pub branch-assigns-requires : goal.branch-assigns-requires
branch-assigns-requires t c = record { in_range = within-Keeps _ _ _ c.in_ok-patterns.ensures.grows.paths c.requires.in_range }

pub branch-loop-switch-init : goal.branch-loop-switch-init
branch-loop-switch-init t c =
    let e = Extends-then _ _ _ c.in_ok-patterns.ensures.grows c.in_ok-assigns.ensures.grows in
    record {
      grows = Extends-refl _;
      inside = within-Keeps _ _ _ e.paths c.requires.in_range;
      made = λ p path test is_test. subst (λ cs. AreChoices c.assigns.new.self.places test p c.args.scope.now.wires.now c.args.bits.now cs []) (sym c.in_ok-choices.ensures.items) (AreChoices-none test p c.args.scope.now.wires.now c.args.bits.now c.assigns.new.self.places);
    }

pub branch-loop-switch-preserved : goal.branch-loop-switch-preserved
branch-loop-switch-preserved t c =
    let f = Extends-then _ _ _ c.in_ok-patterns.ensures.grows c.in_ok-assigns.ensures.grows in
    let e = Extends-then _ _ _ f c.loop-switch.invariant.grows in
    record {
      grows = Extends-then _ _ _ c.loop-switch.invariant.grows c.in_ok-choice.ensures.grows;
      inside = within-Keeps _ _ _ c.in_ok-choice.ensures.grows.paths c.loop-switch.invariant.inside;
      made = λ p path test is_test.
          let wires = c.args.scope.now.wires.now in
          let bits = c.args.bits.now in
          let items = c.deref-switch-items.result.now in
          let is = subst (λ (s : SwitchView). IsChoice c.choice.new.self.places test p wires bits c.in_ok-choice.field-0 s) c.switch-item.is (c.in_ok-choice.ensures.value p (e.paths _ _ path) test is_test) in
          AreChoices-next test p wires bits c.loop-switch.self.places c.choice.new.self.places c.loop-switch.choices.items c.push.new.self.items c.in_ok-choice.field-0 items c.loop-switch.switch-index c.switch-item.result
          c.in_ok-choice.ensures.grows.places c.loop-switch-test.true (c.loop-switch.invariant.made p path test is_test) is c.in_ok-push.ensures.items;
    }

pub branch-returns-clause-value : goal.branch-returns-clause-value
branch-returns-clause-value t c = λ p path test is_test.
    let f = c.in_ok-patterns.ensures.grows in
    let g = c.in_ok-assigns.ensures.grows in
    let h = c.loop-switch.invariant.grows in
    let to_end = Extends-then _ _ _ g h in
    let wires = c.args.scope.now.wires.now in
    let bits = c.args.bits.now in
    let items = c.deref-switch-items.result.now in
    let all = subst (AreChoices c.loop-switch.self.places test p wires bits c.loop-switch.choices.items) (take_all _ items c.loop-switch-test.false) (c.loop-switch.invariant.made p path test is_test) in
    let lines : all_joins c.as_slice.result.now ≡ all_joins c.args.case.now.assigns = ap all_joins (c.as_slice.ensures.value ∙ ap (λ (x : CaseView). x.assigns) c.case.view_is) in
    let inner : switches_of items ≡ c.args.case.now.switches = ap switches_of c.deref-switch-items.ensures.value ∙ ap (λ (x : CaseView). x.switches) c.case.view_is in
    branch_made test p wires bits c.signals.new.self.places c.assigns.new.self.places c.loop-switch.self.places c.in_ok-patterns.patterns c.in_ok-assigns.assigns c.loop-switch.choices.items c.args.patterns.now c.args.case.now (all_joins c.as_slice.result.now) items
    to_end.places h.places (c.in_ok-patterns.ensures.value p path) (c.in_ok-assigns.ensures.value p (f.paths _ _ path) test) lines all inner

pub choice-loop-case-init : goal.choice-loop-case-init
choice-loop-case-init t c = record {
  grows = Extends-refl _;
  inside = within-Keeps _ _ _ c.in_ok-signal.ensures.grows.paths c.requires.in_range;
  made = λ p path test is_test. subst (λ bs. AreBranches c.points.new.self.places test p c.args.scope.now.wires.now c.args.bits.now bs []) (sym c.in_ok-branches.ensures.items) (AreBranches-none test p c.args.scope.now.wires.now c.args.bits.now c.points.new.self.places);
}

pub choice-loop-case-preserved : goal.choice-loop-case-preserved
choice-loop-case-preserved t c =
    let e = Extends-then _ _ _ c.in_ok-signal.ensures.grows c.loop-case.invariant.grows in
    record {
      grows = Extends-then _ _ _ c.loop-case.invariant.grows c.in_ok-branch.ensures.grows;
      inside = within-Keeps _ _ _ c.in_ok-branch.ensures.grows.paths c.loop-case.invariant.inside;
      made = λ p path test is_test.
          let wires = c.args.scope.now.wires.now in
          let bits = c.args.bits.now in
          let items = c.deref-case-items.result.now in
          let patterns = c.as_slice-patterns.ensures.value ∙ ap (λ (x : CaseView). x.patterns) c.case.view_is in
          let made = subst (λ ps. IsBranchAt c.branch-self.new.self.places test p wires bits ps c.in_ok-branch.field-0 c.case-item.result) patterns (c.in_ok-branch.ensures.value p (e.paths _ _ path) test is_test) in
          let is = subst (λ (x : CaseView). IsBranchAt c.branch-self.new.self.places test p wires bits x.patterns c.in_ok-branch.field-0 x) c.case-item.is made in
          AreBranches-next test p wires bits c.loop-case.self.places c.branch-self.new.self.places c.loop-case.branches.items c.push.new.self.items c.in_ok-branch.field-0 items c.loop-case.case-index c.case-item.result
          c.in_ok-branch.ensures.grows.places c.loop-case-test.true (c.loop-case.invariant.made p path test is_test) is c.in_ok-push.ensures.items;
    }

pub choice-returns-clause-value : goal.choice-returns-clause-value
choice-returns-clause-value t c = λ p path test is_test.
    let wires = c.args.scope.now.wires.now in
    let bits = c.args.bits.now in
    let items = c.deref-case-items.result.now in
    let signal = c.as_slice.ensures.value ∙ ap (λ (x : SwitchView). x.signal) c.switch.view_is in
    let read = subst (λ s. ArePoints c.points.new.self.places c.in_ok-signal.signal (points p wires s)) signal (c.in_ok-signal.ensures.value p path) in
    let all = subst (AreBranches c.loop-case.self.places test p wires bits c.loop-case.branches.items) (take_all _ items c.loop-case-test.false) (c.loop-case.invariant.made p path test is_test) in
    let tested = c.in_ok-test.ensures.value test is_test in
    let inner : cases_of items ≡ c.args.switch.now.cases = ap cases_of c.deref-case-items.ensures.value ∙ ap (λ (x : SwitchView). x.cases) c.switch.view_is in
    choice_made test p wires bits c.points.new.self.places c.loop-case.self.places c.in_ok-signal.signal c.in_ok-test.test c.loop-case.branches.items c.args.switch.now items c.loop-case.invariant.grows.places read tested all inner
