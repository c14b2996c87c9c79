-- The marked places so far.
use Rattle.std.proofs.Common.{◌≡◌, filter}
use Rattle.std.specs.List.{range_with_len}
use Rattle.fsm_find.specs.Order.{is_done}
use Rattle.fsm_find.proofs.readers.marked_places.Given as goal

abbrev pub invariant-loop-at : goal.invariant-loop-at
invariant-loop-at l = l.places ≡ filter (is_done l.marks) (range_with_len 0 l.at)
