use Rattle.std.proofs.Common.{refl}
use Rattle.opt_merge.proofs.Among.{among_bit, readers_all}
use Rattle.opt_merge.proofs.readers.Readers.of_signal.Goals as goal

pub loop-bit-preserved : goal.loop-bit-preserved
loop-bit-preserved c =
    among_bit c.args.self.now c.args.signal.now c.loop-bit.places.keys c.add_bit.new.places.keys c.loop-bit.bit-index _ _ c.loop-bit-test.true refl c.loop-bit.invariant c.in_ok-add_bit.ensures.stays c.in_ok-add_bit.ensures.all

pub returns : goal.returns
returns c = record {
  all = readers_all c.args.self.now c.args.signal.now c.loop-bit.places.keys c.loop-bit.bit-index c.loop-bit-test.false c.loop-bit.invariant;
}
