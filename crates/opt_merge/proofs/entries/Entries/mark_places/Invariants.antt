-- The cells at the places so far are late.
use Rattle.std.proofs.Common.{take}
use Rattle.opt_merge.specs.Entries.{Marks}
use Rattle.opt_merge.proofs.entries.Entries.mark_places.Given as goal

abbrev pub invariant-loop-place : goal.invariant-loop-place
invariant-loop-place l = Marks l.fn.self l.self (take l.place-index l.places)
