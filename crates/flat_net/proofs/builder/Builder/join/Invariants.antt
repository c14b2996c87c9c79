-- The parts so far are those before and the joins of the bits so far.
use Rattle.std.proofs.Common.{◌≡◌, take}
use Rattle.flat_net.specs.Adds.{Joins}
use Rattle.flat_net.proofs.builder.Builder.join.Given as goal

abbrev pub invariant-loop-at : goal.invariant-loop-at
invariant-loop-at l = record {
  places : l.self.places ≡ l.fn.self.places;
  joins : Joins l.fn.self.parts.items l.self.parts.items (take l.at l.left) (take l.at l.right);
}
