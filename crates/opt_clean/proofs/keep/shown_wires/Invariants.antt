-- What is said of the wires so far and of those that are left is all.
use Rattle.std.proofs.Common.{◌≡◌, ◌++◌, drop, map}
use Rattle.opt_clean.specs.Keep.{is_shown}
use Rattle.opt_clean.proofs.keep.shown_wires.Given as goal

abbrev pub invariant-loop-wire : goal.invariant-loop-wire
invariant-loop-wire l = l.shown.items ++ map is_shown (drop l.wire-index l.wires) ≡ map is_shown l.wires
