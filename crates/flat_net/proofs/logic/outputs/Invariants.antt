-- The outputs so far are those of the points so far.
use Rattle.std.proofs.Common.{[], take}
use Rattle.flat_net.specs.Cells.{PutsOutputs}
use Rattle.flat_net.proofs.logic.outputs.Given as goal

abbrev pub invariant-loop-at : goal.invariant-loop-at
invariant-loop-at l = PutsOutputs 0 [] l.outputs.items (take l.at l.points)
