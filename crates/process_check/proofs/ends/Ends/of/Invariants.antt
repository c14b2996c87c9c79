-- The places so far have their numbers of followers.
use Rattle.std.proofs.Common.{◌≡◌, length}
use Rattle.process_check.specs.Ends.{AreBelow, AreEnding}
use Rattle.process_check.specs.Search.{rows_of}
use Rattle.process_check.proofs.ends.Ends.of.Given as goal

abbrev pub invariant-loop-at : goal.invariant-loop-at
invariant-loop-at l = record {
  ending : AreEnding (rows_of l.graph) l.ends.ending.items;
  left : length l.ends.left.items ≡ l.at;
  waiting : AreBelow (length l.graph) l.ends.waiting.items;
}
