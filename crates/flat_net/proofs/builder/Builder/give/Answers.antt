use Rattle.flat_net.proofs.Giving.{Gives-none, Gives-next, Adds-gives}
use Rattle.std.proofs.Common.{refl}
use Rattle.flat_net.proofs.builder.Builder.give.Goals as goal

pub loop-at-init : goal.loop-at-init
loop-at-init c = record { places = refl; gives = Gives-none _ }

pub loop-at-preserved : goal.loop-at-preserved
loop-at-preserved c = record {
  places = c.loop-at.invariant.places;
  gives = Gives-next _ _ _ _ c.loop-at.at _ _ c.loop-at-test.true c.in_ok-place.ensures.value c.loop-at.invariant.gives c.in_ok-push.ensures.items;
}

pub returns-clause-rows : goal.returns-clause-rows
returns-clause-rows c = Adds-gives _ _ _ c.loop-at.at c.loop-at.invariant.places c.loop-at-test.false c.loop-at.invariant.gives
