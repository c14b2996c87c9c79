use Rattle.std.proofs.Common.{refl}
use Rattle.opt_merge.proofs.Among.{among_all, among_next, among_on, has_more}
use Rattle.opt_merge.proofs.readers.add_places.Goals as goal

pub loop-place-preserved : goal.loop-place-preserved
loop-place-preserved c =
    let more = has_more c.loop-place.places.keys c.insert.new.self.keys _ c.in_ok-insert.ensures.keys in
    record {
      stays = among_on c.args.places.now.keys c.loop-place.places.keys c.insert.new.self.keys c.loop-place.invariant.stays more.stays;
      all = among_next c.args.more.now c.loop-place.places.keys c.insert.new.self.keys c.loop-place.place-index _ _ c.loop-place-test.true refl c.loop-place.invariant.all more.stays more.own;
    }

pub returns-clause-all : goal.returns-clause-all
returns-clause-all c = among_all c.args.more.now c.loop-place.places.keys c.loop-place.place-index c.loop-place-test.false c.loop-place.invariant.all
