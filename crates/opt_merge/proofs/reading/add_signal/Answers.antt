use Rattle.std.proofs.Common.{◌∙◌}
use Rattle.opt_merge.specs.Reading.{ReadsBit}
use Rattle.opt_merge.proofs.Sofar.{bit_more, each_read, more_both}
use Rattle.opt_merge.proofs.reading.add_signal.Goals as goal

pub loop-bit-preserved : goal.loop-bit-preserved
loop-bit-preserved c = record {
  keeps = λ links are. c.follow-end.ensures.keeps links (c.loop-bit.invariant.keeps links are);
  more = more_both c.args.readers.now c.loop-bit.readers c.add_end.new.readers c.loop-bit.invariant.more c.in_ok-add_end.ensures.more;
  reads = λ links are.
      each_read (ReadsBit c.add_end.new.readers links c.args.at) c.args.signal.now c.loop-bit.bit-index _ c.loop-bit-test.true
      (λ x i. bit_more c.loop-bit.readers c.add_end.new.readers links c.args.at c.in_ok-add_end.ensures.more x (c.loop-bit.invariant.reads links are x i))
      (λ b e. c.in_ok-add_end.ensures.reads b (c.follow-end.ensures.value links (c.loop-bit.invariant.keeps links are) ∙ e));
}
