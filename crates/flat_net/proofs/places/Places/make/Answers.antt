use Rattle.flat_net.proofs.Keys.{Fits-none}
use Rattle.flat_net.proofs.places.Places.make.Goals as goal

pub invariant_of-result : goal.invariant_of-result
invariant_of-result c = rw (c.make.ensures.value) (Fits-none _ _ c.new.ensures.len c.new-2.ensures.len)
