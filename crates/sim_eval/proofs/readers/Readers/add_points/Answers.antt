use Rattle.sim_eval.proofs.AddingReads.{adds_next_in}
use Rattle.sim_eval.proofs.readers.Readers.add_points.Goals as goal

pub loop-point-preserved : goal.loop-point-preserved
loop-point-preserved c =
    adds_next_in c.args.points.now c.loop-point.point-index _ c.args.self.now c.loop-point.self c.add.new.self c.args.place c.loop-point-test.true c.loop-point.invariant c.in_ok-add.ensures.adds
