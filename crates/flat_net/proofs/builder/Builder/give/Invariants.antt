-- The inputs so far are those of the numbers so far.
use Rattle.std.proofs.Common.{◌≡◌, take}
use Rattle.flat_net.specs.Adds.{Gives}
use Rattle.flat_net.proofs.builder.Builder.give.Given as goal

abbrev pub invariant-loop-at : goal.invariant-loop-at
invariant-loop-at l = record {
  places : l.self.places ≡ l.fn.self.places;
  gives : Gives l.fn.self.parts.items l.self.parts.items (take l.at l.numbers);
}
