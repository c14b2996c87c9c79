-- The gates of the cells that are left, behind those so far, are all gates, and so are their counts.
use Rattle.std.proofs.Common.{◌≡◌, ◌++◌}
use Rattle.net_index.specs.Builder.{IsInLimits}
use Rattle.tech_map.specs.InPlace.{counts_of}
use Rattle.tech_map.specs.Techmap.{with_all_gates}
use Rattle.tech_map.proofs.Growing.{AreWhole}
use Rattle.tech_map.proofs.add_gates.Given as goal

abbrev pub invariant-loop-cell : goal.invariant-loop-cell
invariant-loop-cell l = record {
  gates : with_all_gates l.cell-iterator.rest.items l.builder ≡ with_all_gates l.fn.cells.items l.initial.builder;
  counts : l.counts.items ++ counts_of l.cell-iterator.rest.items l.builder ≡ counts_of l.fn.cells.items l.initial.builder;
  whole : AreWhole l.cell-iterator.rest.items l.builder;
  within : IsInLimits l.initial.builder → IsInLimits l.builder;
}
