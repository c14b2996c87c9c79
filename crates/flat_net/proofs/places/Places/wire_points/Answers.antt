use Rattle.std.proofs.Common.{◌≡◌, subst, arith}
use Rattle.rtl_ir.specs.Flat.Point.{wire_points}
use Rattle.flat_net.specs.Reads.{ArePoints}
use Rattle.flat_net.proofs.Kept.{within-Keeps}
use Rattle.flat_net.proofs.Reading.{Extends-then, ArePoints-next, number_read, wire_points-next}
use Rattle.flat_net.proofs.places.Places.wire_points.Goals as goal

pub number-requires : goal.number-requires
number-requires c = record { in_range = within-Keeps _ _ _ c.loop-at.invariant.grows.paths c.requires.in_range }

pub loop-at-preserved : goal.loop-at-preserved
loop-at-preserved c = record {
  grows = Extends-then _ _ _ c.loop-at.invariant.grows c.in_ok-number.ensures.grows;
  they = λ p path.
      ArePoints-next _ _ _ _ _ _ _ _ c.in_ok-number.ensures.grows.places (c.loop-at.invariant.they p path)
      (number_read _ _ _ (c.in_ok-number.ensures.value p (c.loop-at.invariant.grows.paths _ _ path)))
      c.in_ok-push.ensures.items (wire_points-next p c.args.name.now c.loop-at.at);
}

pub returns-clause-value : goal.returns-clause-value
returns-clause-value c = λ p path.
    let end : c.loop-at.at ≡ c.args.width = omega arith in
    rw c.from_vec.ensures.value (subst (λ n. ArePoints c.loop-at.self.places c.loop-at.points.items (wire_points p c.args.name.now 0 n)) end (c.loop-at.invariant.they p path))
