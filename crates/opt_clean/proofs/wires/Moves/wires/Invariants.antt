-- The wires so far and the marked ones that are left are all.
use Rattle.std.proofs.Common.{◌≡◌, ◌++◌, drop}
use Rattle.opt_clean.specs.Kept.{marked}
use Rattle.opt_clean.proofs.wires.Moves.wires.Given as goal

abbrev pub invariant-loop-place : goal.invariant-loop-place
invariant-loop-place l =
    l.kept.items ++ marked (drop l.place l.marks) (drop l.place l.wires) ≡ marked l.marks l.wires
