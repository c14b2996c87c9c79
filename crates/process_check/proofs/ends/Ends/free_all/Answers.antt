use Rattle.std.proofs.Common.{◌∙◌, length, refl}
use Rattle.process_check.proofs.Endings.{place_below}
use Rattle.process_check.proofs.ends.Ends.free_all.Goals as goal

pub free-requires : goal.free-requires
free-requires c = record {
  in_range = place_below (length c.args.self.now.left.items) (length c.loop-place.self.left.items) c.args.places.now c.loop-place.place-index c.requires.below c.loop-place-test.true c.loop-place.invariant.left;
}

pub loop-place-preserved : goal.loop-place-preserved
loop-place-preserved c = record {
  ending = c.in_ok-free.ensures.ending ∙ c.loop-place.invariant.ending;
  left = c.in_ok-free.ensures.left ∙ c.loop-place.invariant.left;
  waiting = c.in_ok-free.ensures.waiting (length c.args.self.now.left.items)
      (place_below (length c.args.self.now.left.items) (length c.args.self.now.left.items) c.args.places.now c.loop-place.place-index c.requires.below c.loop-place-test.true refl)
      c.loop-place.invariant.waiting;
  work = c.in_ok-free.ensures.work ∙ c.loop-place.invariant.work;
}
