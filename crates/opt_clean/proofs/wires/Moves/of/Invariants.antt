-- The places so far and those that are left are all.
use Rattle.std.proofs.Common.{◌≡◌, ◌+◌, ◌++◌, drop}
use Rattle.opt_clean.specs.Moving.{places_from}
use Rattle.opt_clean.specs.Wires.{mark_count}
use Rattle.opt_clean.proofs.wires.Moves.of.Given as goal

abbrev pub invariant-loop-mark : goal.invariant-loop-mark
invariant-loop-mark l =
    record {
      places : l.places.items ++ places_from l.count (drop l.mark-index l.marks) ≡ places_from 0 l.marks;
      count : l.count + mark_count (drop l.mark-index l.marks) ≡ mark_count l.marks;
    }
