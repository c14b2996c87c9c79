use Rattle.std.proofs.Common.{subst, sym}
use Rattle.opt_merge.specs.Among.{AreAmong}
use Rattle.opt_merge.specs.Readers.{readers_of_signal}
use Rattle.opt_merge.proofs.Marking.{marks_among}
use Rattle.opt_merge.proofs.entries.Entries.mark_signal.Goals as goal

pub returns : goal.returns
returns c = record {
  marks =
      marks_among c.args.self.now c.mark_places.new.self (readers_of_signal c.args.readers.now c.args.signal.now) c.as_slice.result.now c.in_ok-mark_places.ensures.marks
      (subst (AreAmong (readers_of_signal c.args.readers.now c.args.signal.now)) (sym c.as_slice.ensures.keys) c.in_ok-places.ensures.all);
}
