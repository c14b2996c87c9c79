-- The bits so far and those of the places that are left are all.
use Rattle.std.proofs.Common.{◌≡◌, ◌++◌, drop}
use Rattle.net_model.specs.Proc.Sync.{right_side}
use Rattle.proc_sync.proofs.joins.right_side.Given as goal

abbrev pub invariant-loop-place : goal.invariant-loop-place
invariant-loop-place l = l.bits.items ++ right_side ((drop l.place-index l.places)) ≡ right_side l.places
