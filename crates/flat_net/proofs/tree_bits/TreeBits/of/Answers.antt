use Rattle.std.proofs.Common.{◌∙◌, ap, arith}
use Rattle.indexmap.specs.IndexSet.{insert_key}
use Rattle.rtl_ir.specs.Signals.{same_bit}
use Rattle.flat_net.proofs.TreeBits.{once_here}
use Rattle.flat_net.proofs.tree_bits.TreeBits.of.Goals as goal

pub loop-at-preserved : goal.loop-at-preserved
loop-at-preserved c = record {
  distinct = c.in_ok-insert_full.ensures.unique;
  once = once_here c.loop-at.bits.keys c.insert_full.new.self.keys c.in_ok-assigned.assigned.items c.loop-at.at c.index.result.now c.loop-at-test.true (omega (arith, c.loop-at.auto.at)) c.loop-at.invariant.once (c.in_ok-insert_full.ensures.keys ∙ ap (insert_key same_bit c.loop-at.bits.keys) c.index.ensures);
}
