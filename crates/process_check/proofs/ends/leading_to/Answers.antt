use Rattle.std.proofs.Common.{sym}
use Rattle.process_check.proofs.Endings.{row_below}
use Rattle.process_check.proofs.ends.leading_to.Goals as goal

pub link_all-requires-clause-below : goal.link_all-requires-clause-below
link_all-requires-clause-below c =
    row_below c.args.graph.now c.loop-at.at c.index-graph-at.result c.loop-at-test.true c.index-graph-at.is c.requires.graph _ (sym c.loop-at.invariant.size) c.as_slice.result.now c.as_slice.ensures.value
