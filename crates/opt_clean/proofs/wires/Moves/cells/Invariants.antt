-- The cells so far and those that are left, by their new places, are all.
use Rattle.std.proofs.Common.{◌≡◌, ◌++◌, Bool, List, map}
use Rattle.opt_clean.specs.Moving.{AreMoves}
use Rattle.opt_clean.specs.Wires.{moved_cell}
use Rattle.opt_clean.proofs.wires.Moves.cells.Given as goal

abbrev pub invariant-loop-cell : goal.invariant-loop-cell
invariant-loop-cell l =
    (marks : List Bool) → AreMoves l.self marks
    → l.moved.items ++ map (moved_cell marks) l.cell-iterator.rest.items ≡ map (moved_cell marks) l.fn.cells.items
