-- The bits so far and those of the places that are left are all.
use Rattle.std.proofs.Common.{◌≡◌, ◌++◌, drop}
use Rattle.net_model.specs.Proc.Sync.{level_side}
use Rattle.proc_sync.specs.Sources.{joins_in}
use Rattle.proc_sync.proofs.sources.Sources.level_side.Given as goal

abbrev pub invariant-loop-place : goal.invariant-loop-place
invariant-loop-place l = l.bits.items ++ level_side (joins_in l.self) ((drop l.place-index l.places)) ≡ level_side (joins_in l.self) l.places
