use Rattle.std.proofs.Common.{◌∷◌, List, Bor, map, refl}
use Rattle.rtl_ir.specs.declared.wire.Wire.{Wire}
use Rattle.rtl_ir.specs.Flat.Cell.{instance_rows, port_joins}
use Rattle.rtl_ir.specs.Flat.Point.{points, wire_points}
use Rattle.rtl_ir.specs.Parameters.{signal_at}
use Rattle.rtl_ir.specs.Ports.{line_of}
use Rattle.flat_net.specs.Tables.{all_now}
use Rattle.flat_net.proofs.Kept.{within-Keeps}
use Rattle.flat_net.proofs.Reading.{Extends-then}
use Rattle.flat_net.proofs.Adding.{Leads-item, Leads-last}
use Rattle.flat_net.proofs.builder.Builder.add_ports.Goals as goal

pub add_port-requires : goal.add_port-requires
add_port-requires c = record {
  in_range = within-Keeps _ _ _ c.loop-port.invariant.grows.paths c.requires.in_range;
  inner_in_range = within-Keeps _ _ _ c.loop-port.invariant.grows.paths c.requires.inner_in_range;
}

pub loop-port-preserved : goal.loop-port-preserved
loop-port-preserved c = record {
  grows = Extends-then _ _ _ c.loop-port.invariant.grows c.in_ok-add_port.ensures.grows;
  rows = λ p path f there.
      let rows = λ (ws : List (Bor Wire)). instance_rows p c.args.scope.now.wires.now c.args.pins.now f (map line_of (all_now ws)) in
      let here = λ (w : Bor Wire). port_joins w.now.role (points p c.args.scope.now.wires.now (signal_at c.args.pins.now w.now.name)) (wire_points (f ∷ p) w.now.name 0 w.now.width) in
      Leads-item rows here (λ w ws. refl) refl c.args.ports.now _ _ _ _ c.loop-port.port-index c.port-item.result c.loop-port-test.true c.port-item.is (c.loop-port.invariant.rows p path f there)
      (c.in_ok-add_port.ensures.rows p (c.loop-port.invariant.grows.paths _ _ path) (f ∷ p) (c.loop-port.invariant.grows.paths _ _ there));
}

pub returns-clause-rows : goal.returns-clause-rows
returns-clause-rows c = λ p path f there.
    let rows = λ (ws : List (Bor Wire)). instance_rows p c.args.scope.now.wires.now c.args.pins.now f (map line_of (all_now ws)) in
    let here = λ (w : Bor Wire). port_joins w.now.role (points p c.args.scope.now.wires.now (signal_at c.args.pins.now w.now.name)) (wire_points (f ∷ p) w.now.name 0 w.now.width) in
    Leads-last rows here (λ w ws. refl) refl c.args.ports.now _ _ _ c.loop-port.port-index c.loop-port-test.false (c.loop-port.invariant.rows p path f there)
