-- So many sets, each without a place.
use Rattle.std.proofs.Common.{◌≡◌, ℕ, [], get_or, length}
use Rattle.opt_merge.specs.Late.{lists_of}
use Rattle.opt_merge.proofs.late.Late.of.Given as goal

abbrev pub invariant-loop-class : goal.invariant-loop-class
invariant-loop-class l = record {
  count : length l.places.items ≡ l._class;
  none : (k : ℕ) → get_or (lists_of l.places.items) k [] ≡ [];
}
