use Rattle.flat_net.proofs.Kept.{within-Keeps}
use Rattle.flat_net.proofs.Reading.{Extends-then}
use Rattle.flat_net.proofs.Treeing.{Opens-next, Opens-all}
use Rattle.flat_net.proofs.places.Places.open_instances.Goals as goal

pub open_instance-requires : goal.open_instance-requires
open_instance-requires c = record { in_range = within-Keeps _ _ _ c.loop-at.invariant.grows.paths c.requires.in_range }

pub loop-at-preserved : goal.loop-at-preserved
loop-at-preserved c = record {
  grows = Extends-then _ _ _ c.loop-at.invariant.grows c.in_ok-open_instance.ensures.grows;
  opens = λ d table p path.
      Opens-next d _ _ _ _ _ _ p c.args.cells.now c.loop-at.at c.index-cells-at.result c.loop-at-test.true c.loop-at.auto.at c.index-cells-at.is c.in_ok-open_instance.ensures.grows.paths
      (c.loop-at.invariant.opens d table p path) (c.in_ok-open_instance.ensures.opens d table p (c.loop-at.invariant.grows.paths _ _ path));
  pathed = λ h. c.in_ok-open_instance.ensures.pathed (c.loop-at.invariant.pathed h);
}

pub returns-clause-opens : goal.returns-clause-opens
returns-clause-opens c = λ d table p path. Opens-all d _ _ _ _ p _ c.loop-at.at c.loop-at-test.false (c.loop-at.invariant.opens d table p path)
