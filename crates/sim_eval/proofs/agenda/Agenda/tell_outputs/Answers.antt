use Rattle.flat_net.specs.declared.net.Output.{Output}
use Rattle.sim_eval.proofs.Marking.{tells_next}
use Rattle.sim_eval.proofs.agenda.Agenda.tell_outputs.Goals as goal

pub loop-output-preserved : goal.loop-output-preserved
loop-output-preserved c =
    tells_next c.args.readers.now c.args.now.now c.args.outputs.now c.loop-output.output-index _ c.args.self.now c.loop-output.self c.tell.new.self c.loop-output-test.true (λ (x : Output). x.number) c.loop-output.invariant c.in_ok-tell.ensures.tells
