-- The places stay those of a graph, and as many.
use Rattle.std.proofs.Common.{◌≡◌, length}
use Rattle.process_check.specs.Search.{IsGraph, rows_of}
use Rattle.process_check.proofs.ends.leading_to.Given as goal

abbrev pub invariant-loop-at : goal.invariant-loop-at
invariant-loop-at l = record {
  size : length l.leading.items ≡ length l.graph;
  graph : IsGraph (rows_of l.leading.items);
}
