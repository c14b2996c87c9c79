use Rattle.std.proofs.Common.{sym, ◌∙◌}
use Rattle.fsm_find.proofs.Finding.{under_fork, under_stray}
use Rattle.fsm_find.proofs.Visiting.{visit_fork, visit_leaf}
use Rattle.fsm_find.proofs.reach.Reach.visit.Goals as goal

pub returns-in_ok-learn-in-Leaf : goal.returns-in_ok-learn-in-Leaf
returns-in_ok-learn-in-Leaf c = record {
  ok = λ ports m root view r under. visit_leaf m c.args.view.now.state root c.args.self.now c.learn.new.self r c.args.signal.now c.args.below.now.items under (sym c.in-Leaf.is ∙ c.in_ok-step.ensures.value ports m view) c.in_ok-learn-in-Leaf.ensures.ok;
}

pub returns-in_ok-meet-in-Fork : goal.returns-in_ok-meet-in-Fork
returns-in_ok-meet-in-Fork c = record {
  ok = λ ports m root view r under.
      let is = sym c.in-Fork.is ∙ c.in_ok-step.ensures.value ports m view in
      visit_fork m c.args.view.now.state root c.args.self.now c.meet.new.self r c.args.signal.now c.in-Fork.at c.args.below.now.items c.push.new.self.items is
      (c.in_ok-meet-in-Fork.ensures.ok m c.args.view.now.state root r (under_fork m c.args.view.now.state root c.args.signal.now c.in-Fork.at under is)) c.in_ok-push-in-Fork.ensures.items;
}

pub returns-in-Stray : goal.returns-in-Stray
returns-in-Stray c = record {
  ok = λ ports m root view r under. under_stray m c.args.view.now.state root c.args.signal.now under (sym c.in-Stray.is ∙ c.in_ok-step.ensures.value ports m view);
}
