use Rattle.sim_eval.specs.Reads.{store_points}
use Rattle.sim_eval.proofs.AddingReads.{adds_next}
use Rattle.sim_eval.proofs.readers.Readers.add_bits.Goals as goal

pub loop-bit-preserved : goal.loop-bit-preserved
loop-bit-preserved c =
    adds_next c.args.bits.now c.loop-bit.bit-index _ c.args.self.now c.loop-bit.self c.add_bit.new.self c.args.place c.loop-bit-test.true (store_points c.args.latch) c.loop-bit.invariant c.in_ok-add_bit.ensures.adds
