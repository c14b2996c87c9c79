use Rattle.std.proofs.Common.{subst, sym}
use Rattle.rtl_ir.specs.Flat.Point.{points}
use Rattle.flat_net.specs.Reads.{ArePoints}
use Rattle.flat_net.proofs.Fetching.{read_port_made}
use Rattle.flat_net.proofs.Kept.{within-Keeps}
use Rattle.flat_net.proofs.Reading.{ArePoints-kept, Extends-then}
use Rattle.flat_net.proofs.places.Places.read_port.Goals as goal

pub points-requires-2 : goal.points-requires-2
points-requires-2 c = record { in_range = within-Keeps _ _ _ c.in_ok-address.ensures.grows.paths c.requires.in_range }

pub returns-clause-grows : goal.returns-clause-grows
returns-clause-grows c = Extends-then _ _ _ c.in_ok-address.ensures.grows c.in_ok-points.ensures.grows

pub returns-clause-value : goal.returns-clause-value
returns-clause-value c = λ p path.
    let wires = c.args.scope.now.wires.now in
    let qs = c.points-2.new.self.places in
    let address = ArePoints-kept _ qs c.in_ok-points.ensures.grows.places _ _ (c.in_ok-address.ensures.value p path) in
    let read = c.in_ok-points.ensures.value p (c.in_ok-address.ensures.grows.paths _ _ path) in
    read_port_made qs p wires _ c.args.read.now _ c.as_slice-3.result.now c.address.view_is
    (subst (λ s. ArePoints qs c.in_ok-address.address (points p wires s)) c.as_slice.ensures.value address)
    (subst (λ ys. ArePoints qs ys (points p wires c.args.read.now.«data»)) (sym c.as_slice-3.ensures.value) (subst (λ s. ArePoints qs c.in_ok-points.points (points p wires s)) c.as_slice-2.ensures.value read))
    c.in_ok-outputs.ensures.value
