-- The modules so far are copied.
use Rattle.std.proofs.Common.{◌≡◌, map, take}
use Rattle.script_core.proofs.building.copies.Given as goal

abbrev pub invariant-loop-module : goal.invariant-loop-module
invariant-loop-module l = l.all ≡ map (λ m. m.now) (take l.module-index l.modules)
