use Rattle.std.proofs.Common.{subst}
use Rattle.std.proofs.lemmas.List.{take_all}
use Rattle.rtl_ir.specs.Flat.Point.{points}
use Rattle.flat_net.specs.Reads.{ArePoints}
use Rattle.flat_net.proofs.Kept.{within-Keeps}
use Rattle.flat_net.proofs.Reading.{Extends-then, ArePoints-next, points-more}
use Rattle.flat_net.proofs.places.Places.points.Goals as goal

pub point-requires : goal.point-requires
point-requires c = record { in_range = within-Keeps _ _ _ c.loop-bit.invariant.grows.paths c.requires.in_range }

pub loop-bit-preserved : goal.loop-bit-preserved
loop-bit-preserved c = record {
  grows = Extends-then _ _ _ c.loop-bit.invariant.grows c.in_ok-point.ensures.grows;
  they = λ p path.
      ArePoints-next _ _ _ _ _ _ _ _ c.in_ok-point.ensures.grows.places (c.loop-bit.invariant.they p path) (c.in_ok-point.ensures.value p (c.loop-bit.invariant.grows.paths _ _ path))
      c.in_ok-push.ensures.items (points-more p _ _ _ _ c.loop-bit-test.true);
}

pub returns-clause-value : goal.returns-clause-value
returns-clause-value c = λ p path.
    rw c.from_vec.ensures.value (subst (λ signal. ArePoints c.loop-bit.self.places c.loop-bit.points.items (points p c.args.scope.now.wires.now signal)) (take_all _ _ c.loop-bit-test.false) (c.loop-bit.invariant.they p path))
