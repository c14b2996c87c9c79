-- The bits so far and those that are left, by their new places, are all.
use Rattle.std.proofs.Common.{◌≡◌, ◌++◌, Bool, List, drop, map}
use Rattle.opt_clean.specs.Moving.{AreMoves}
use Rattle.opt_clean.specs.Wires.{moved_bit}
use Rattle.opt_clean.proofs.wires.Moves.signal.Given as goal

abbrev pub invariant-loop-bit : goal.invariant-loop-bit
invariant-loop-bit l =
    (marks : List Bool) → AreMoves l.self marks
    → l.moved ++ map (moved_bit marks) (drop l.bit-index l.signal) ≡ map (moved_bit marks) l.signal
