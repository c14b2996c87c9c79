-- The points so far are read.
use Rattle.std.proofs.Common.{take}
use Rattle.sim_eval.specs.Reads.{AddsReads}
use Rattle.sim_eval.proofs.readers.Readers.add_points.Given as goal

abbrev pub invariant-loop-point : goal.invariant-loop-point
invariant-loop-point l = AddsReads l.fn.self l.self l.place (take l.point-index l.points)
