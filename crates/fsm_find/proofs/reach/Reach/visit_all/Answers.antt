use Rattle.std.proofs.Common.{sym, subst, ap, ◌∙◌, refl, Some}
use Rattle.std.proofs.lemmas.Option.{slice_get_read}
use Rattle.fsm_find.specs.Trees.{IsUnder, Visits}
use Rattle.fsm_find.proofs.Visiting.{at_false, at_true, get_in, take_all, visit_next, visits_none}
use Rattle.fsm_find.proofs.reach.Reach.visit_all.Goals as goal

pub loop-signal-init : goal.loop-signal-init
loop-signal-init c = λ ports m root view r under. visits_none m c.args.view.now.state root c.args.self.now c.args.below.now.items r

pub returns-then-not-branch : goal.returns-then-not-branch
returns-then-not-branch c = record {
  ok = λ ports m root view r under.
      let is = slice_get_read c.args.signals.now _ c.loop-signal.signal-index c.signal-item.result refl c.loop-signal-test.true c.signal-item.is in
      let here = subst (IsUnder m c.args.view.now.state root) (sym c.as_slice.ensures.value) (under c.signal-item.result (get_in c.args.signals.now c.loop-signal.signal-index c.signal-item.result is)) in
      at_false _ _ _ c.if-not-branch.true (c.in_ok-visit.ensures.ok ports m root view (c.loop-signal.invariant ports m root view r under).reach here);
}

pub loop-signal-preserved : goal.loop-signal-preserved
loop-signal-preserved c = λ ports m root view r under.
    let state = c.args.view.now.state in
    let is = slice_get_read c.args.signals.now _ c.loop-signal.signal-index c.signal-item.result refl c.loop-signal-test.true c.signal-item.is in
    let before = c.loop-signal.invariant ports m root view r under in
    let here = subst (IsUnder m state root) (sym c.as_slice.ensures.value) (under c.signal-item.result (get_in c.args.signals.now c.loop-signal.signal-index c.signal-item.result is)) in
    visit_next m state root c.args.signals.now c.loop-signal.signal-index c.as_slice.result.now c.args.self.now c.loop-signal.self c.visit.new.self c.args.below.now.items c.loop-signal.below.items c.visit.new.below.items
    (is ∙ ap Some (sym c.as_slice.ensures.value)) before (at_true _ _ _ c.if-not-branch.false (c.in_ok-visit.ensures.ok ports m root view before.reach here))

pub returns : goal.returns
returns c = record {
  ok = λ ports m root view r under.
      subst (λ ss. Visits m c.args.view.now.state root ss c.args.self.now c.loop-signal.self c.args.below.now.items c.loop-signal.below.items) (take_all c.args.signals.now _ c.loop-signal-test.false) (c.loop-signal.invariant ports m root view r under);
}
