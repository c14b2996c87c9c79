-- The parameters so far.
use Rattle.std.proofs.Common.{◌≡◌, ◌++◌, drop, map}
use Rattle.opt_more.specs.Changed.{renumbered}
use Rattle.opt_more.proofs.changed.all_renumbered.Given as goal

abbrev pub invariant-loop-param : goal.invariant-loop-param
invariant-loop-param l = l.after.items ++ map (renumbered l.width) (drop l.param-index l.params) ≡ map (renumbered l.width) l.params
