use Rattle.proc_latch.proofs.Searching.{value_ends}
use Rattle.proc_latch.proofs.given.first_value.Goals as goal

pub returns-then-one-node : goal.returns-then-one-node
returns-then-one-node c = record {
  value = value_ends c.args.node c.args.given.now c.loop-one.one-index _ c.loop-one-test.true c.if-one-node.true c.requires.from c.requires.in_order c.loop-one.found _ c.loop-one.invariant;
}
