use Rattle.std.proofs.Common.{length}
use Rattle.process_check.proofs.Endings.{place_below}
use Rattle.process_check.proofs.ends.link_all.Goals as goal

pub link-requires-clause-place : goal.link-requires-clause-place
link-requires-clause-place c =
    place_below (length c.args.graph.now.items) (length c.loop-place.graph.items) c.args.places.now c.loop-place.place-index c.requires.below c.loop-place-test.true c.loop-place.invariant.size
