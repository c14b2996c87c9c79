-- A list of places for each number so far.
use Rattle.std.proofs.Common.{◌≡◌, length}
use Rattle.opt_merge.proofs.readers.Readers.of.Given as goal

abbrev pub invariant-loop-number : goal.invariant-loop-number
invariant-loop-number l = length l.inside.items ≡ l._number
