use Rattle.std.proofs.Common.{sym, ◌∙◌}
use Rattle.proc_reset.specs.Reads.{is_among}
use Rattle.proc_reset.proofs.Gathering.{any_here, any_next}
use Rattle.proc_reset.proofs.sets.meets.Goals as goal

pub returns-then-has_place : goal.returns-then-has_place
returns-then-has_place c = record {
  value = λ all are.
      any_here (is_among all) c.args.signal.now c.loop-place.place-index _ c.loop-place-test.true
      (sym c.if-has_place.true ∙ c.has_place.ensures.value all are) _ (c.loop-place.invariant all are);
}

pub loop-place-preserved : goal.loop-place-preserved
loop-place-preserved c = λ all are.
    any_next (is_among all) c.args.signal.now c.loop-place.place-index _ c.loop-place-test.true
    (sym c.if-has_place.false ∙ c.has_place.ensures.value all are) _ (c.loop-place.invariant all are)
