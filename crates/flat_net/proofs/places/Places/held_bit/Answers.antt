use Rattle.flat_net.proofs.Kept.{within-Keeps}
use Rattle.flat_net.proofs.Reading.{IsSource-kept}
use Rattle.flat_net.proofs.places.Places.held_bit.Goals as goal

pub bit-requires : goal.bit-requires
bit-requires c = record { in_range = within-Keeps _ _ _ c.in_ok-source.ensures.grows.paths c.requires.in_range }

pub returns-clause-value : goal.returns-clause-value
returns-clause-value c = λ p path start is. record {
  number = c.in_ok-bit.ensures.value p (c.in_ok-source.ensures.grows.paths _ _ path);
  begins = c.at.ensures.value start is;
  source = IsSource-kept _ _ c.in_ok-bit.ensures.grows.places p c.args.scope.now.wires.now c.args.bits.now c.in_ok-source.source c.args.line.source (c.in_ok-source.ensures.value p path);
}
