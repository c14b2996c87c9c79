-- The bits so far are read.
use Rattle.std.proofs.Common.{take}
use Rattle.sim_eval.specs.Reads.{AddsReads, points_at}
use Rattle.sim_eval.proofs.readers.Readers.add_numbers.Given as goal

abbrev pub invariant-loop-number : goal.invariant-loop-number
invariant-loop-number l = AddsReads l.fn.self l.self l.place (points_at (take l.number-index l.numbers))
