-- The sources so far are read.
use Rattle.std.proofs.Common.{take}
use Rattle.sim_eval.specs.Reads.{AddsReads, sources_points}
use Rattle.sim_eval.proofs.readers.Readers.add_sources.Given as goal

abbrev pub invariant-loop-bit : goal.invariant-loop-bit
invariant-loop-bit l = AddsReads l.fn.self l.self l.place (sources_points (take l.bit-index l.bits))
