use Rattle.sim_eval.proofs.Marking.{marks_next}
use Rattle.sim_eval.proofs.agenda.Agenda.mark_all.Goals as goal

pub loop-place-preserved : goal.loop-place-preserved
loop-place-preserved c =
    marks_next c.args.places.now c.loop-place.place-index _ c.args.self.now c.loop-place.self c.mark.new.self c.loop-place-test.true c.loop-place.invariant c.in_ok-mark.ensures.marks
