use Rattle.std.proofs.Common.{ap, subst, ◌∙◌}
use Rattle.sim_eval.specs.Reads.{AddsReads, points_at}
use Rattle.sim_eval.proofs.AddingReads.{adds_next}
use Rattle.sim_eval.proofs.readers.Readers.add_columns.Goals as goal

pub loop-column-preserved : goal.loop-column-preserved
loop-column-preserved c =
    adds_next c.args.columns.now c.loop-column.column-index c.column-item.result c.args.self.now c.loop-column.self c.add_numbers.new.self c.args.place c.loop-column-test.true (points_at) c.loop-column.invariant
    (subst (λ z. AddsReads c.loop-column.self c.add_numbers.new.self c.args.place z) (ap points_at (c.as_slice.ensures.value ∙ c.column-item.is)) c.in_ok-add_numbers.ensures.adds)
