-- Each place that waits leaves less to do.
use Rattle.std.proofs.Common.{◌≡◌, length}
use Rattle.process_check.specs.Ends.{AreBelow, AreEnding, to_do}
use Rattle.process_check.specs.Search.{rows_of}
use Rattle.process_check.proofs.ends.ending_places.Given as goal

abbrev pub invariant-loop-at : goal.invariant-loop-at
invariant-loop-at l = record {
  ending : AreEnding (rows_of l.graph) l.ends.ending.items;
  left : length l.ends.left.items ≡ length l.graph;
  waiting : AreBelow (length l.graph) l.ends.waiting.items;
}

abbrev pub decreases-loop-at : goal.decreases-loop-at
decreases-loop-at l = to_do l.ends.left.items l.ends.waiting.items
