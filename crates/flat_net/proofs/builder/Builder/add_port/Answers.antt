use Rattle.std.proofs.Common.{◌∙◌, ap, subst}
use Rattle.rtl_ir.specs.Flat.Cell.{port_joins}
use Rattle.rtl_ir.specs.Flat.Point.{points, wire_points}
use Rattle.rtl_ir.specs.Parameters.{signal_at}
use Rattle.flat_net.specs.Reads.{ArePoints}
use Rattle.flat_net.proofs.Kept.{within-Keeps}
use Rattle.flat_net.proofs.Adding.{joined}
use Rattle.flat_net.proofs.builder.Builder.add_port.Goals as goal

pub wire_points-requires : goal.wire_points-requires
wire_points-requires c = record { in_range = within-Keeps _ _ _ c.in_ok-outside.ensures.grows.paths c.requires.inner_in_range }

pub returns-clause-rows : goal.returns-clause-rows
returns-clause-rows c = λ p path q there.
    let signal = c.signal_at.ensures.value ∙ ap (signal_at c.args.pins.now) c.as_slice-name.ensures.value in
    let outside = subst (λ s. ArePoints c.points.new.self.places c.in_ok-outside.outside (points p c.args.scope.now.wires.now s)) signal (c.in_ok-outside.ensures.value p path) in
    let inside = subst (λ n. ArePoints c.wire_points.new.self.places c.in_ok-inside.inside (wire_points q n 0 c.args.port.now.width)) c.as_slice-name.ensures.value
    (c.in_ok-inside.ensures.value q (c.in_ok-outside.ensures.grows.paths _ _ there)) in
    joined (port_joins c.args.port.now.role) c.args.self.now c.join_port.new.self c.points.new.self c.wire_points.new.self _ _ _ _ _ _ c.in_ok-outside.ensures.grows c.in_ok-inside.ensures.grows outside inside
    c.as_slice.ensures.value c.as_slice-2.ensures.value c.join_port.result c.join_port.ensures.rows
