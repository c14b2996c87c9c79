use Rattle.flat_net.proofs.Kept.{within-Keeps}
use Rattle.flat_net.proofs.Reading.{Extends-then}
use Rattle.flat_net.proofs.Registering.{register_made}
use Rattle.flat_net.proofs.places.Places.register.Goals as goal

pub bit-requires : goal.bit-requires
bit-requires c = record { in_range = within-Keeps _ _ _ c.in_ok-d.ensures.grows.paths c.requires.in_range }

pub returns-clause-value : goal.returns-clause-value
returns-clause-value c = λ p path start is they pins.
    let e = Extends-then _ _ _ c.in_ok-d.ensures.grows c.in_ok-number.ensures.grows in
    register_made c.args.self.now.places c.point.new.self.places c.bit.new.self.places start p c.args.scope.now.wires.now c.args.register.now they c.args.line c.in_ok-d.d c.in_ok-number.number c.at.result
    e.places c.in_ok-number.ensures.grows.places pins (c.in_ok-d.ensures.value p path) (c.in_ok-number.ensures.value p (c.in_ok-d.ensures.grows.paths _ _ path)) (c.at.ensures.value start is)
