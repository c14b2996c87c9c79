use Rattle.flat_net.specs.declared.choices.Assign.{Assign}
use Rattle.sim_eval.proofs.AddingReads.{adds_next_point}
use Rattle.sim_eval.proofs.readers.Readers.add_assigns.Goals as goal

pub loop-assign-preserved : goal.loop-assign-preserved
loop-assign-preserved c =
    adds_next_point c.args.assigns.now c.loop-assign.assign-index _ c.args.self.now c.loop-assign.self c.add.new.self c.args.place c.loop-assign-test.true (λ (a : Assign). a.from) c.loop-assign.invariant c.in_ok-add.ensures.adds
