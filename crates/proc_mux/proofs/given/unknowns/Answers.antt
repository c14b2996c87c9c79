use Rattle.proc_mux.proofs.RunSteps.{unknown_goes}
use Rattle.proc_mux.proofs.given.unknowns.Goals as goal

pub loop-preserved : goal.loop-preserved
loop-preserved c = unknown_goes c.args.run.now c.loop.index c.loop-test.true c.loop.bits c.push.new.self _ c.in_ok-push.ensures.ok c.loop.invariant
