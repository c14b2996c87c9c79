-- The bits so far.
use Rattle.std.proofs.Common.{◌≡◌, map}
use Rattle.std.specs.List.{range_with_len}
use Rattle.mem_gather.specs.Tables.{start_bit}
use Rattle.mem_gather.proofs.starts.start_word.Given as goal

abbrev pub invariant-loop-at : goal.invariant-loop-at
invariant-loop-at l = l.word ≡ map (start_bit l.width l.cell l.number l.old) (range_with_len 0 l.at)
