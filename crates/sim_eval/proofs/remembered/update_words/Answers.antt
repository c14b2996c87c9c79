use Rattle.std.proofs.Common.{◌<◌, length}
use Rattle.flat_net.specs.declared.memory.WordBit.{WordBit}
use Rattle.flat_net.specs.Words.{word_row}
use Rattle.sim_eval.specs.Moment.{time_of}
use Rattle.sim_eval.proofs.Bridges.{board_on}
use Rattle.sim_eval.proofs.Taking.{advances_next_row, all_at, fewer_more}
use Rattle.sim_eval.proofs.remembered.update_words.Goals as goal

pub loop-bit-preserved : goal.loop-bit-preserved
loop-bit-preserved c = record {
  fewer = fewer_more _ _ _ _ _ c.loop-bit.invariant.fewer c.in_ok-changed.ensures.fewer;
  advances = λ ps board words within.
      advances_next_row ps (time_of ps c.args.moment.now) c.args.bits.now c.loop-bit.bit-index _ _ _ _ _ _ c.loop-bit-test.true (word_row ps c.args.words.now) (c.loop-bit.invariant.advances ps board words within)
      (c.in_ok-changed.ensures.advances ps (board_on ps c.args.moment.now _ _ board c.loop-bit.auto.now) words (all_at (λ (b : WordBit). b.number < length ps) c.args.bits.now c.loop-bit.bit-index _ within c.loop-bit-test.true));
}
