use Rattle.flat_net.proofs.Giving.{PutsNumbers-next, PutsNumbers-all}
use Rattle.flat_net.proofs.inputs.numbers_in.Goals as goal

pub loop-point-preserved : goal.loop-point-preserved
loop-point-preserved c = PutsNumbers-next _ _ _ _ c.loop-point.point-index _ c.loop-point-test.true c.loop-point.invariant c.in_ok-put_number.ensures.value

pub returns : goal.returns
returns c = record { value = rw c.from_vec.ensures.value (PutsNumbers-all _ _ _ c.loop-point.point-index c.loop-point-test.false c.loop-point.invariant) }
