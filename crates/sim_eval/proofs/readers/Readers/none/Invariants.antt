-- A list for each number so far.
use Rattle.std.proofs.Common.{◌≡◌, length}
use Rattle.sim_eval.proofs.readers.Readers.none.Given as goal

abbrev pub invariant-loop-number : goal.invariant-loop-number
invariant-loop-number l = length l.lists.items ≡ l._number
