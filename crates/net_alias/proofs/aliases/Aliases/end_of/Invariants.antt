-- All that is known is so, and so many steps were made.
use Rattle.std.proofs.Common.{List}
use Rattle.rtl_ir.specs.declared.follow.Join.{Join}
use Rattle.net_alias.specs.Aliases.{AreAliases}
use Rattle.net_alias.proofs.Learning.{Walked}
use Rattle.net_alias.proofs.aliases.Aliases.end_of.Given as goal

abbrev pub invariant-loop-step : goal.invariant-loop-step
invariant-loop-step l = record {
  keeps : (all : List Join) → AreAliases l.fn.self all → AreAliases l.self all;
  way : (all : List Join) → AreAliases l.fn.self all → Walked all l.bit l.at l._step;
}
