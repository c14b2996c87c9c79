use Rattle.std.proofs.Common.{◌≡◌, take}
use Rattle.desk_core.specs.Needed.{places_marked}
use Rattle.desk_core.proofs.needed.marks_of.Given as goal

-- the places so far are marked
abbrev pub invariant-loop-place : goal.invariant-loop-place
invariant-loop-place l = l.marks.items ≡ places_marked (take l.place-index l.places) l.count
