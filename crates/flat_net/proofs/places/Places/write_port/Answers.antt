use Rattle.std.proofs.Common.{refl, subst}
use Rattle.rtl_ir.specs.Flat.Point.{points}
use Rattle.flat_net.specs.Reads.{ArePoints}
use Rattle.flat_net.proofs.Kept.{within-Keeps}
use Rattle.flat_net.proofs.Reading.{Extends-then, ArePoints-kept}
use Rattle.flat_net.proofs.Wording.{port_made}
use Rattle.flat_net.proofs.places.Places.write_port.Goals as goal

pub points-requires-2 : goal.points-requires-2
points-requires-2 c = record { in_range = within-Keeps _ _ _ c.in_ok-address.ensures.grows.paths c.requires.in_range }

pub points-requires-3 : goal.points-requires-3
points-requires-3 c = record { in_range = within-Keeps _ _ _ (Extends-then _ _ _ c.in_ok-address.ensures.grows c.in_ok-enable.ensures.grows).paths c.requires.in_range }

pub returns-clause-grows : goal.returns-clause-grows
returns-clause-grows c = Extends-then _ _ _ (Extends-then _ _ _ c.in_ok-address.ensures.grows c.in_ok-enable.ensures.grows) c.in_ok-word.ensures.grows

pub returns-clause-value : goal.returns-clause-value
returns-clause-value c = λ p path.
    let wires = c.args.scope.now.wires.now in
    let first = c.in_ok-address.ensures.grows in
    let second = Extends-then _ _ _ first c.in_ok-enable.ensures.grows in
    let qs = c.points-3.new.self.places in
    let behind = Extends-then _ _ _ c.in_ok-enable.ensures.grows c.in_ok-word.ensures.grows in
    let address = ArePoints-kept _ qs behind.places _ _ (c.in_ok-address.ensures.value p path) in
    let enable = ArePoints-kept _ qs c.in_ok-word.ensures.grows.places _ _ (c.in_ok-enable.ensures.value p (first.paths _ _ path)) in
    let word = c.in_ok-word.ensures.value p (second.paths _ _ path) in
    port_made qs p wires _ c.args.write.now _ _ _ _ refl refl c.in_ok-mask.ensures.value
    refl (subst (λ s. ArePoints qs c.in_ok-address.address (points p wires s)) c.as_slice.ensures.value address)
    refl (subst (λ s. ArePoints qs c.in_ok-enable.enable (points p wires s)) c.as_slice-2.ensures.value enable)
    refl (subst (λ s. ArePoints qs c.in_ok-word.word (points p wires s)) c.as_slice-3.ensures.value word)
