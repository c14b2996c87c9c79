use Rattle.std.proofs.Common.{◌∙◌, length, sym}
use Rattle.net_model.specs.declared.order.Order.TheVariants.{Together}
use Rattle.flat_net.specs.declared.leaves.HeldBit.{HeldBit}
use Rattle.flat_net.specs.Within.{IsHeldBitWithin}
use Rattle.sim_eval.specs.Race.{raced_fact}
use Rattle.sim_eval.proofs.Firsts.{held_within}
use Rattle.sim_eval.proofs.Taking.{all_at, fewer_more, takes_next}
use Rattle.sim_eval.proofs.raced.put_raced.Goals as goal

pub loop-bit-preserved : goal.loop-bit-preserved
loop-bit-preserved c = record {
  fewer = fewer_more _ _ _ _ _ c.loop-bit.invariant.fewer c.put-changed.ensures.fewer;
  takes = λ ps first raced was apart before same race within.
      takes_next ps (λ (b : HeldBit). b.number) (λ (b : HeldBit). (raced_fact ps c.args.before.now Together first raced was b).value) c.args.bits.now c.loop-bit.bit-index _ _ _ _ _ _ _ c.loop-bit-test.true apart (same ∙ sym c.loop-bit.auto.now) (held_within (length ps) raced.tree.width c.args.bits.now within)
      (c.raced_bit.ensures.value ps first raced was apart before race (all_at (IsHeldBitWithin (length ps) raced.tree.width) c.args.bits.now c.loop-bit.bit-index _ within c.loop-bit-test.true))
      c.put-changed.ensures.value c.put-changed.ensures.gains (c.loop-bit.invariant.takes ps first raced was apart before same race within);
}
