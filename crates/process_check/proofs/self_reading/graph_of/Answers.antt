use Rattle.std.proofs.Common.{◌∙◌, length, subst, inr, ⊎_elim}
use Rattle.std.proofs.Math.ListN.{drop_of_length-le}
use Rattle.process_check.specs.Readings.{HasEdge, edge}
use Rattle.process_check.specs.Search.{rows_of}
use Rattle.process_check.proofs.GraphEdges.{complete_next, edge_below, sound_next}
use Rattle.process_check.proofs.self_reading.graph_of.Goals as goal

pub loop-edge-init : goal.loop-edge-init
loop-edge-init c = record {
  graph = c.in_ok-graph.ensures.graph;
  size = c.in_ok-graph.ensures.size;
  sound = λ i j h. absurd (c.in_ok-graph.ensures.none i j h);
  complete = λ i j h. inr h;
}

pub link-requires-clause-place : goal.link-requires-clause-place
link-requires-clause-place c =
    (edge_below c.args.count (length c.loop-edge.graph.items) c.args.edges.now c.loop-edge.edge-index (edge 0 0) c.requires.between c.loop-edge-test.true c.loop-edge.invariant.size).0

pub link-requires-clause-in_range : goal.link-requires-clause-in_range
link-requires-clause-in_range c =
    (edge_below c.args.count (length c.loop-edge.graph.items) c.args.edges.now c.loop-edge.edge-index (edge 0 0) c.requires.between c.loop-edge-test.true c.loop-edge.invariant.size).1

pub loop-edge-preserved : goal.loop-edge-preserved
loop-edge-preserved c = record {
  graph = c.in_ok-link.ensures.graph;
  size = c.in_ok-link.ensures.size ∙ c.loop-edge.invariant.size;
  sound = sound_next (rows_of c.loop-edge.graph.items) (rows_of c.link.new.graph.items) c.args.edges.now c.loop-edge.edge-index _ c.loop-edge-test.true c.in_ok-link.ensures.links c.loop-edge.invariant.sound;
  complete = complete_next (rows_of c.loop-edge.graph.items) (rows_of c.link.new.graph.items) c.args.edges.now c.loop-edge.edge-index _ c.loop-edge-test.true c.in_ok-link.ensures.links c.loop-edge.invariant.complete;
}

pub returns-clause-edges : goal.returns-clause-edges
returns-clause-edges c = record {
  sound = c.loop-edge.invariant.sound;
  complete = λ i j h. ⊎_elim (λ there. there) (λ left. absurd (subst (HasEdge i j) (drop_of_length-le c.args.edges.now c.loop-edge-test.false) left)) (c.loop-edge.invariant.complete i j h);
}
