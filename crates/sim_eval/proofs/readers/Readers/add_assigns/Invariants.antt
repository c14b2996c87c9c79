-- The assigns so far are read.
use Rattle.std.proofs.Common.{take}
use Rattle.sim_eval.specs.Reads.{AddsReads, assigns_points}
use Rattle.sim_eval.proofs.readers.Readers.add_assigns.Given as goal

abbrev pub invariant-loop-assign : goal.invariant-loop-assign
invariant-loop-assign l = AddsReads l.fn.self l.self l.place (assigns_points (take l.assign-index l.assigns))
