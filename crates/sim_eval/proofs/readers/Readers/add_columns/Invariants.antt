-- The columns so far are read.
use Rattle.std.proofs.Common.{take}
use Rattle.std.specs.Prelude.{flat_map}
use Rattle.sim_eval.specs.Reads.{AddsReads, points_at}
use Rattle.sim_eval.proofs.readers.Readers.add_columns.Given as goal

abbrev pub invariant-loop-column : goal.invariant-loop-column
invariant-loop-column l = AddsReads l.fn.self l.self l.place (flat_map points_at (take l.column-index l.columns))
