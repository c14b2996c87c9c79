-- The bits so far are read.
use Rattle.std.proofs.Common.{take}
use Rattle.std.specs.Prelude.{flat_map}
use Rattle.sim_eval.specs.Reads.{AddsReads, store_points}
use Rattle.sim_eval.proofs.readers.Readers.add_bits.Given as goal

abbrev pub invariant-loop-bit : goal.invariant-loop-bit
invariant-loop-bit l = AddsReads l.fn.self l.self l.place (flat_map (store_points l.latch) (take l.bit-index l.bits))
