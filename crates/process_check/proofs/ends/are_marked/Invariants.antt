-- The places so far are marked.
use Rattle.std.proofs.Common.{drop}
use Rattle.process_check.specs.Ends.{AreMarked}
use Rattle.process_check.proofs.ends.are_marked.Given as goal

abbrev pub invariant-loop-place : goal.invariant-loop-place
invariant-loop-place l = AreMarked l.marks (drop l.place-index l.places) → AreMarked l.marks l.places
