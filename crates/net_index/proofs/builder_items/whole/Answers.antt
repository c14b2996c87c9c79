use Rattle.net_index.proofs.Rooms.{whole_step}
use Rattle.net_index.proofs.builder_items.whole.Goals as goal

pub loop-at-preserved : goal.loop-at-preserved
loop-at-preserved c =
    whole_step c.loop-at.bits c.push.new.self _ c.args.wire c.loop-at.at c.args.width c.in_ok-push.ensures.ok c.loop-at-test.true c.loop-at.invariant
