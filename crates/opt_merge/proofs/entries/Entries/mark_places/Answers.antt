use Rattle.opt_merge.proofs.Marking.{marks_next, marks_none}
use Rattle.opt_merge.proofs.entries.Entries.mark_places.Goals as goal

pub loop-place-init : goal.loop-place-init
loop-place-init c = marks_none c.args.self.now

pub loop-place-preserved : goal.loop-place-preserved
loop-place-preserved c =
    marks_next c.args.self.now c.loop-place.self c.mark.new.self c.args.places.now c.loop-place.place-index _ c.loop-place-test.true c.loop-place.invariant c.in_ok-mark.ensures.marks
