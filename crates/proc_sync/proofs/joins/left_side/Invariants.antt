-- The bits so far and those of the places that are left are all.
use Rattle.std.proofs.Common.{◌≡◌, ◌++◌, drop}
use Rattle.net_model.specs.Proc.Sync.{left_side}
use Rattle.proc_sync.proofs.joins.left_side.Given as goal

abbrev pub invariant-loop-place : goal.invariant-loop-place
invariant-loop-place l = l.bits.items ++ left_side ((drop l.place-index l.places)) ≡ left_side l.places
