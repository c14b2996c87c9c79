-- All that is known is so.
use Rattle.std.proofs.Common.{List}
use Rattle.rtl_ir.specs.declared.follow.Join.{Join}
use Rattle.net_index.specs.IndexWays.{AreWays}
use Rattle.net_index.proofs.index_ways.Ways.settle_all.Given as goal

abbrev pub invariant-loop-join : goal.invariant-loop-join
invariant-loop-join l = (all : List Join) → AreWays l.fn.self all → AreWays l.self all
