use Rattle.std.proofs.Common.{◌∙◌, refl, sym}
use Rattle.flat_net.specs.declared.leaves.HeldBit.{HeldBit}
use Rattle.sim_eval.proofs.Taking.{fewer_more, takes_next}
use Rattle.sim_eval.proofs.raced.put_starts.Goals as goal

pub loop-bit-preserved : goal.loop-bit-preserved
loop-bit-preserved c = record {
  fewer = fewer_more _ _ _ _ _ c.loop-bit.invariant.fewer c.put-changed.ensures.fewer;
  takes = λ ps apart same within.
      takes_next ps (λ (b : HeldBit). b.number) (λ (b : HeldBit). b.start) c.args.bits.now c.loop-bit.bit-index _ _ _ _ _ _ _ c.loop-bit-test.true apart (same ∙ sym c.loop-bit.auto.now) within
      refl c.put-changed.ensures.value c.put-changed.ensures.gains (c.loop-bit.invariant.takes ps apart same within);
}
