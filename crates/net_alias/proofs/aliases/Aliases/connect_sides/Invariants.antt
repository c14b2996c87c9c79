-- Some places are in, and those that are left are the rest of all.
use Rattle.std.proofs.Common.{◌≡◌, ◌++◌, List, drop}
use Rattle.rtl_ir.specs.Follow.{joins}
use Rattle.rtl_ir.specs.declared.follow.Join.{Join}
use Rattle.net_alias.specs.Aliases.{AreAliases}
use Rattle.net_alias.proofs.aliases.Aliases.connect_sides.Given as goal

abbrev pub invariant-loop-at : goal.invariant-loop-at
invariant-loop-at l = (all : List Join) → AreAliases l.fn.self all → (now : List Join) × AreAliases l.self now × (now ++ joins (drop l.at l.left) (drop l.at l.right) ≡ all ++ joins l.left l.right)
