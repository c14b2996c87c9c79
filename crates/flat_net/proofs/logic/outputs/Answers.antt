use Rattle.flat_net.proofs.Celling.{PutsOutputs-next, PutsOutputs-all}
use Rattle.flat_net.proofs.logic.outputs.Goals as goal

pub loop-at-preserved : goal.loop-at-preserved
loop-at-preserved c = PutsOutputs-next _ _ _ _ c.loop-at.at _ c.loop-at-test.true c.loop-at.invariant c.in_ok-put_output.ensures.value

pub returns : goal.returns
returns c = record { value = rw c.from_vec.ensures.value (PutsOutputs-all _ _ _ c.loop-at.at c.loop-at-test.false c.loop-at.invariant) }
