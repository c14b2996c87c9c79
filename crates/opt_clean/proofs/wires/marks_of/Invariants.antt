-- The marks so far and those of the wires that are left are all.
use Rattle.std.proofs.Common.{◌≡◌, ◌++◌, drop}
use Rattle.opt_clean.specs.Moving.{marks_by}
use Rattle.opt_clean.proofs.wires.marks_of.Given as goal

abbrev pub invariant-loop-place : goal.invariant-loop-place
invariant-loop-place l =
    l.marks.items ++ marks_by (drop l.place l.named) (drop l.place l.wires) ≡ marks_by l.named l.wires
