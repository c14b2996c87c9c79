-- So many rows so far, and nothing in one.
use Rattle.std.proofs.Common.{◌≡◌, ℕ, [], length}
use Rattle.process_trees.specs.Walk.{sources_at}
use Rattle.process_trees.proofs.reaching.begin.Given as goal

abbrev pub invariant-loop : goal.invariant-loop
invariant-loop l = record {
  size : length l.sources.items ≡ l.counter;
  none : (k : ℕ) → sources_at l.sources.items k ≡ [];
}
