-- No place so far follows another.
use Rattle.std.proofs.Common.{◌≡◌, length}
use Rattle.process_check.specs.Ends.{AreUnlinked}
use Rattle.process_check.specs.Search.{rows_of}
use Rattle.process_check.proofs.ends.unlinked.Given as goal

abbrev pub invariant-loop : goal.invariant-loop
invariant-loop l = record {
  size : length l.graph.items ≡ l.counter;
  none : AreUnlinked (rows_of l.graph.items);
}
