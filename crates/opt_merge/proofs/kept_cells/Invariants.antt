-- The cells so far and those that are picked of the rest are all that are picked.
use Rattle.std.proofs.Common.{◌≡◌, ◌++◌, length, drop}
use Rattle.opt_merge.specs.Picked.{picked}
use Rattle.opt_merge.proofs.kept_cells.Given as goal

abbrev pub invariant-loop-at : goal.invariant-loop-at
invariant-loop-at l =
    l.kept.items ++ picked l.at-iterator.count l.at-iterator.iter.rest.items (drop (length l.kept.items) l.places)
    ≡ picked 0 l.fn.cells.items l.places
