-- The numbers so far are those of the points so far.
use Rattle.std.proofs.Common.{[], take}
use Rattle.flat_net.specs.Adds.{PutsNumbers}
use Rattle.flat_net.proofs.inputs.numbers_in.Given as goal

abbrev pub invariant-loop-point : goal.invariant-loop-point
invariant-loop-point l = PutsNumbers [] l.numbers.items (take l.point-index l.points)
