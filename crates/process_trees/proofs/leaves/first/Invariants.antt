-- What is put so far is that of the bits so far.
use Rattle.std.proofs.Common.{◌≡◌, take}
use Rattle.process_trees.specs.Rounds.{first_summaries}
use Rattle.process_trees.proofs.leaves.first.Given as goal

abbrev pub invariant-loop-bit : goal.invariant-loop-bit
invariant-loop-bit l = l.summaries.items ≡ first_summaries l.asked (take l.bit-index l.bits)
