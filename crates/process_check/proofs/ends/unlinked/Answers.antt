use Rattle.std.proofs.Common.{subst, sym}
use Rattle.process_check.specs.Ends.{AreUnlinked}
use Rattle.process_check.specs.Search.{rows_of}
use Rattle.process_check.proofs.Endings.{none_graph, size_more, unlinked_more}
use Rattle.process_check.proofs.ends.unlinked.Goals as goal

pub loop-preserved : goal.loop-preserved
loop-preserved c = record {
  size = size_more c.loop.graph.items c.push.new.self.items c.new.result c.loop.counter c.in_ok-push.ensures.items c.loop.invariant.size;
  none = subst (λ graph. AreUnlinked (rows_of graph)) (sym c.in_ok-push.ensures.items) (unlinked_more c.loop.graph.items c.new.result c.new.ensures.items c.loop.invariant.none);
}

pub returns-clause-graph : goal.returns-clause-graph
returns-clause-graph c = none_graph c.loop.graph.items c.loop.invariant.none
