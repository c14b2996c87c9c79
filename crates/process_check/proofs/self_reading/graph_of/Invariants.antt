-- The edges so far are those of the graph: what is left of them, and what the graph has, is all.
use Rattle.std.proofs.Common.{◌≡◌, ◌⊎◌, ℕ, length, drop}
use Rattle.process_check.specs.Readings.{HasEdge}
use Rattle.process_check.specs.Search.{In, IsGraph, followers, rows_of}
use Rattle.process_check.proofs.self_reading.graph_of.Given as goal

abbrev pub invariant-loop-edge : goal.invariant-loop-edge
invariant-loop-edge l = record {
  graph : IsGraph (rows_of l.graph.items);
  size : length l.graph.items ≡ l.count;
  sound : (i j : ℕ) → In j (followers (rows_of l.graph.items) i) → HasEdge i j l.edges;
  complete : (i j : ℕ) → HasEdge i j l.edges → In j (followers (rows_of l.graph.items) i) ⊎ HasEdge i j (drop l.edge-index l.edges);
}
