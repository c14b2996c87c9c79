-- The places so far are marked.
use Rattle.std.proofs.Common.{take}
use Rattle.fsm_code.specs.Places.{AreMarks}
use Rattle.fsm_code.proofs.marks.marks.Given as goal

abbrev pub invariant-loop-place : goal.invariant-loop-place
invariant-loop-place l = AreMarks l.count (take l.place-index l.places) l.marks.items
