use Rattle.std.proofs.Common.{arith}
use Rattle.flat_net.proofs.Rooting.{list_next}
use Rattle.flat_net.proofs.tree_bits.TreeBits.list.Goals as goal

pub loop-at-preserved : goal.loop-at-preserved
loop-at-preserved c = list_next c.args.self.now c.loop-at.list.items c.push.new.self.items c.at.result c.loop-at.at c.loop-at-test.true (omega (arith, c.loop-at.auto.at)) c.loop-at.invariant c.at.ensures.value c.in_ok-push.ensures.items
