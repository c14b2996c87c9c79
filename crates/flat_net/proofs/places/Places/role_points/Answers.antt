use Rattle.std.proofs.Common.{subst, map}
use Rattle.std.proofs.lemmas.List.{take_all}
use Rattle.rtl_ir.specs.Flat.Tree.{role_points}
use Rattle.rtl_ir.specs.Ports.{line_of}
use Rattle.flat_net.specs.Reads.{ArePoints}
use Rattle.flat_net.specs.Tables.{all_now}
use Rattle.flat_net.proofs.Kept.{within-Keeps}
use Rattle.flat_net.proofs.Reading.{Extends-then}
use Rattle.flat_net.proofs.Giving.{ArePoints-more, role_points-next}
use Rattle.flat_net.proofs.places.Places.role_points.Goals as goal

pub port_points-requires : goal.port_points-requires
port_points-requires c = record { in_range = within-Keeps _ _ _ c.loop-port.invariant.grows.paths c.requires.in_range }

pub loop-port-preserved : goal.loop-port-preserved
loop-port-preserved c = record {
  grows = Extends-then _ _ _ c.loop-port.invariant.grows c.in_ok-here.ensures.grows;
  they = λ p path.
      ArePoints-more _ _ _ _ _ _ _ _ _ c.in_ok-here.ensures.grows.places (c.loop-port.invariant.they p path) (c.in_ok-here.ensures.value p (c.loop-port.invariant.grows.paths _ _ path))
      c.as_slice.ensures.value c.in_ok-extend.ensures.ok (role_points-next c.args.role p c.args.ports.now c.loop-port.port-index c.port-item.result c.loop-port-test.true c.port-item.is);
}

pub returns-clause-value : goal.returns-clause-value
returns-clause-value c = λ p path.
    subst (λ ws. ArePoints c.loop-port.self.places c.loop-port.points (role_points c.args.role p (map line_of (all_now ws)))) (take_all _ c.args.ports.now c.loop-port-test.false) (c.loop-port.invariant.they p path)
