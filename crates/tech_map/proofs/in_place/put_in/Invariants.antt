-- The cells so far, and those that are left with the counts and the gates that are left, are all of them.
use Rattle.std.proofs.Common.{◌≡◌, ◌++◌}
use Rattle.tech_map.specs.InPlace.{put_in}
use Rattle.tech_map.proofs.in_place.put_in.Given as goal

abbrev pub invariant-loop-cell : goal.invariant-loop-cell
invariant-loop-cell l =
    l.all.items ++ put_in l.cell-iterator.rest.items l.counts.items l.gates.items
    ≡ put_in l.fn.cells.items l.fn.counts.items l.fn.gates.items
