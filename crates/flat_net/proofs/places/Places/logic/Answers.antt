use Rattle.flat_net.proofs.Kept.{within-Keeps}
use Rattle.flat_net.proofs.Reading.{Extends-then, ArePoints-kept}
use Rattle.flat_net.proofs.Celling.{logic_is}
use Rattle.flat_net.proofs.places.Places.logic.Goals as goal

pub pin_points-requires-2 : goal.pin_points-requires-2
pin_points-requires-2 c = record { in_range = within-Keeps _ _ _ c.in_ok-a.ensures.grows.paths c.requires.in_range }

pub pin_points-requires-3 : goal.pin_points-requires-3
pin_points-requires-3 c =
    let e2 = Extends-then _ _ _ c.in_ok-a.ensures.grows c.in_ok-b.ensures.grows in
    record { in_range = within-Keeps _ _ _ e2.paths c.requires.in_range }

pub pin_points-requires-4 : goal.pin_points-requires-4
pin_points-requires-4 c =
    let e2 = Extends-then _ _ _ c.in_ok-a.ensures.grows c.in_ok-b.ensures.grows in
    let e3 = Extends-then _ _ _ e2 c.in_ok-s.ensures.grows in
    record { in_range = within-Keeps _ _ _ e3.paths c.requires.in_range }

pub returns-clause-grows : goal.returns-clause-grows
returns-clause-grows c =
    let e2 = Extends-then _ _ _ c.in_ok-a.ensures.grows c.in_ok-b.ensures.grows in
    let e3 = Extends-then _ _ _ e2 c.in_ok-s.ensures.grows in
    Extends-then _ _ _ e3 c.in_ok-y.ensures.grows

pub returns-clause-value : goal.returns-clause-value
returns-clause-value c = λ p path.
    let e1 = c.in_ok-a.ensures.grows in
    let e2 = Extends-then _ _ _ e1 c.in_ok-b.ensures.grows in
    let e3 = Extends-then _ _ _ e2 c.in_ok-s.ensures.grows in
    let f3 = c.in_ok-y.ensures.grows in
    let f2 = Extends-then _ _ _ c.in_ok-s.ensures.grows f3 in
    let f1 = Extends-then _ _ _ c.in_ok-b.ensures.grows f2 in
    let a = ArePoints-kept _ _ f1.places _ _ (c.in_ok-a.ensures.value p path) in
    let b = ArePoints-kept _ _ f2.places _ _ (c.in_ok-b.ensures.value p (e1.paths _ _ path)) in
    let s = ArePoints-kept _ _ f3.places _ _ (c.in_ok-s.ensures.value p (e2.paths _ _ path)) in
    let y = c.in_ok-y.ensures.value p (e3.paths _ _ path) in
    logic_is p c.args.scope.now.wires.now _ c.args.cell.now.pins _ _ _ _ _ _ _ _ c.as_slice-pins.ensures.value c.in_ok-fitting_shape.ensures.value c.a.view_is a c.b.view_is b c.s.view_is s c.as_slice.ensures.value y c.in_ok-outputs.ensures.value
