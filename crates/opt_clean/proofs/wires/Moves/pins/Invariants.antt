-- The pins so far and those that are left, by their new places, are all.
use Rattle.std.proofs.Common.{◌≡◌, ◌++◌, Bool, List, map}
use Rattle.opt_clean.specs.Moving.{AreMoves}
use Rattle.opt_clean.specs.Wires.{moved_pin}
use Rattle.opt_clean.proofs.wires.Moves.pins.Given as goal

abbrev pub invariant-loop-pin : goal.invariant-loop-pin
invariant-loop-pin l =
    (marks : List Bool) → AreMoves l.self marks
    → l.moved.items ++ map (moved_pin marks) l.pin-iterator.rest.items ≡ map (moved_pin marks) l.fn.pins.items
