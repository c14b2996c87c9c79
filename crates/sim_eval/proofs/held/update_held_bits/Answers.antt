use Rattle.std.proofs.Common.{length}
use Rattle.flat_net.specs.Parts.{held_row}
use Rattle.flat_net.specs.Within.{IsHeldBitWithin}
use Rattle.sim_eval.specs.Moment.{time_of}
use Rattle.sim_eval.proofs.Bridges.{board_on}
use Rattle.sim_eval.proofs.Taking.{advances_next_row, all_at, fewer_more}
use Rattle.sim_eval.proofs.held.update_held_bits.Goals as goal

pub loop-bit-preserved : goal.loop-bit-preserved
loop-bit-preserved c = record {
  fewer = fewer_more _ _ _ _ _ c.loop-bit.invariant.fewer c.in_ok-changed.ensures.fewer;
  advances = λ ps board tree within.
      advances_next_row ps (time_of ps c.args.moment.now) c.args.bits.now c.loop-bit.bit-index _ _ _ _ _ _ c.loop-bit-test.true (held_row ps c.args.tree.now) (c.loop-bit.invariant.advances ps board tree within)
      (c.in_ok-changed.ensures.advances ps (board_on ps c.args.moment.now _ _ board c.loop-bit.auto.now) tree (all_at (IsHeldBitWithin (length ps) c.args.tree.now.width) c.args.bits.now c.loop-bit.bit-index _ within c.loop-bit-test.true));
}
