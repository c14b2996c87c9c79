use Rattle.std.proofs.Common.{◌∙◌}
use Rattle.fsm_find.proofs.Ordering.{settled_count, settled_in, settled_same, settled_shallow, settled_stuck}
use Rattle.fsm_find.proofs.order.sweep.Goals as goal

pub loop-at-preserved-then-moved : goal.loop-at-preserved-then-moved
loop-at-preserved-then-moved c =
    let old = c.loop-at.done.items in
    let new = c.settle.new.done.items in
    let node = c.index-nodes-at.result in
    let here = settled_in c.args.nodes.now c.loop-at.at node c.loop-at-test.true c.loop-at.auto.at c.index-nodes-at.is in
    record {
      count = settled_count old new node c.in_ok-here.here c.in_ok-here.ensures.moved ∙ c.loop-at.invariant.count;
      shallow = λ s. settled_shallow c.args.nodes.now old new node c.in_ok-here.here here c.in_ok-here.ensures.moved (c.loop-at.invariant.shallow s);
      same = λ e. let t = c.if-moved.true in absurd (cc);
      stuck = λ e other i. let t = c.if-moved.true in absurd (cc);
    }

pub loop-at-preserved : goal.loop-at-preserved
loop-at-preserved c =
    let old = c.loop-at.done.items in
    let new = c.settle.new.done.items in
    let node = c.index-nodes-at.result in
    let here = settled_in c.args.nodes.now c.loop-at.at node c.loop-at-test.true c.loop-at.auto.at c.index-nodes-at.is in
    record {
      count = settled_count old new node c.in_ok-here.here c.in_ok-here.ensures.moved ∙ c.loop-at.invariant.count;
      shallow = λ s. settled_shallow c.args.nodes.now old new node c.in_ok-here.here here c.in_ok-here.ensures.moved (c.loop-at.invariant.shallow s);
      same = λ e. settled_same old new node c.in_ok-here.here c.in_ok-here.ensures.moved e ∙ c.loop-at.invariant.same c.if-moved.false;
      stuck = λ e. settled_stuck c.args.nodes.now old new c.loop-at.at node c.in_ok-here.here c.loop-at-test.true c.loop-at.auto.at c.index-nodes-at.is c.in_ok-here.ensures.moved e (c.loop-at.invariant.stuck c.if-moved.false);
    }
