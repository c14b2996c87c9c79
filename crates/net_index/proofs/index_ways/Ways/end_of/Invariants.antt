-- The bit is so many connections back from the start, and the mark is on the way to it.
use Rattle.std.proofs.Common.{List}
use Rattle.rtl_ir.specs.declared.follow.Join.{Join}
use Rattle.net_index.specs.IndexWays.{AreWays}
use Rattle.net_index.proofs.IndexPassing.{Passed}
use Rattle.net_index.proofs.index_ways.Ways.end_of.Given as goal

abbrev pub invariant-loop-step : goal.invariant-loop-step
invariant-loop-step l = (joins : List Join) → AreWays l.self joins → Passed joins l.fn.start l.mark l.bit l.step
