-- The places stay those of a graph, and as many.
use Rattle.std.proofs.Common.{◌≡◌, length}
use Rattle.process_check.specs.Search.{IsGraph, rows_of}
use Rattle.process_check.proofs.ends.link_all.Given as goal

abbrev pub invariant-loop-place : goal.invariant-loop-place
invariant-loop-place l = record {
  size : length l.graph.items ≡ length l.initial.graph.items;
  graph : IsGraph (rows_of l.graph.items);
}
