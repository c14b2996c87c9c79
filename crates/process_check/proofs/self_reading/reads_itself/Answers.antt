use Rattle.std.proofs.Common.{◌∙◌, ap, length, subst, sym, arith}
use Rattle.rtl_ir.specs.Faults.Recursion.{leads_within}
use Rattle.process_check.specs.Readings.{HasEdges}
use Rattle.process_check.specs.Search.{IsGraph, rows_of}
use Rattle.process_check.proofs.Selves.{edges_between, none_reads, one_reads}
use Rattle.process_check.proofs.self_reading.reads_itself.Goals as goal

pub graph_of-requires : goal.graph_of-requires
graph_of-requires c = record { between = edges_between c.args.root.now c.args.bits.now c.as_slice.result.now (c.as_slice.ensures.value ∙ c.in_ok-edges.ensures.edges) }

pub ending_places-requires : goal.ending_places-requires
ending_places-requires c = record { graph = subst (λ graph. IsGraph (rows_of graph)) (sym c.as_slice-2.ensures.value) c.in_ok-graph.ensures.graph }

pub is_recursive-requires-clause-graph : goal.is_recursive-requires-clause-graph
is_recursive-requires-clause-graph c = subst (λ graph. IsGraph (rows_of graph)) (sym c.as_slice-in-loop-at.ensures.value) c.in_ok-graph.ensures.graph

pub returns-then-branch : goal.returns-then-branch
returns-then-branch c = record {
  value =
      one_reads c.args.root.now c.args.bits.now (rows_of c.in_ok-graph.graph.items)
      (subst (HasEdges (rows_of c.in_ok-graph.graph.items)) (c.as_slice.ensures.value ∙ c.in_ok-edges.ensures.edges) c.in_ok-graph.ensures.edges) c.loop-at.at
      (sym (c.in_ok-is_recursive.ensures.value
      ∙ (λ i. leads_within (rows_of (c.as_slice-in-loop-at.ensures.value i)) (length (c.as_slice-in-loop-at.ensures.value i)) c.loop-at.at c.loop-at.at)
      ∙ ap (λ n. leads_within (rows_of c.in_ok-graph.graph.items) n c.loop-at.at c.loop-at.at) c.in_ok-graph.ensures.size)
      ∙ c.if-branch.true);
}

pub returns : goal.returns
returns c = record {
  value =
      none_reads c.args.root.now c.args.bits.now (rows_of c.in_ok-graph.graph.items)
      (subst (HasEdges (rows_of c.in_ok-graph.graph.items)) (c.as_slice.ensures.value ∙ c.in_ok-edges.ensures.edges) c.in_ok-graph.ensures.edges)
      (λ k h. c.loop-at.invariant k (omega arith));
}
