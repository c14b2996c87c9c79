use Rattle.flat_net.specs.declared.leaves.HeldBit.{HeldBit}
use Rattle.sim_eval.proofs.AddingReads.{adds_next_point}
use Rattle.sim_eval.proofs.readers.Readers.add_sources.Goals as goal

pub loop-bit-preserved : goal.loop-bit-preserved
loop-bit-preserved c =
    adds_next_point c.args.bits.now c.loop-bit.bit-index _ c.args.self.now c.loop-bit.self c.add.new.self c.args.place c.loop-bit-test.true (λ (b : HeldBit). b.source.from) c.loop-bit.invariant c.in_ok-add.ensures.adds
