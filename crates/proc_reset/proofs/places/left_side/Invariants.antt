-- The bits so far and those of the places that are left are all.
use Rattle.std.proofs.Common.{◌≡◌, ◌++◌, drop}
use Rattle.proc_reset.specs.Places.{joins_of, left_side}
use Rattle.proc_reset.proofs.places.left_side.Given as goal

abbrev pub invariant-loop-place : goal.invariant-loop-place
invariant-loop-place l = l.bits.items ++ left_side (joins_of (drop l.place-index l.places)) ≡ left_side (joins_of l.places)
