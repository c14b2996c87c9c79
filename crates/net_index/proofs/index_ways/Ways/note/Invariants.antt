-- All that is known is so, and what was found is so of the bit.
use Rattle.std.proofs.Common.{List}
use Rattle.rtl_ir.specs.declared.follow.Join.{Join}
use Rattle.net_index.specs.IndexWays.{AreWays, IsFound}
use Rattle.net_index.proofs.index_ways.Ways.note.Given as goal

abbrev pub invariant-loop : goal.invariant-loop
invariant-loop l = record {
  known : (joins : List Join) → AreWays l.fn.self joins → IsFound joins l.fn.start l.found → AreWays l.self joins;
  found : (joins : List Join) → AreWays l.fn.self joins → IsFound joins l.fn.start l.found → IsFound joins l.bit l.found;
}
