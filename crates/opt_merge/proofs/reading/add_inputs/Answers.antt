use Rattle.std.proofs.Common.{◌∙◌, ap, subst}
use Rattle.rtl_ir.specs.Parameters.{signal_at}
use Rattle.opt_merge.specs.Reading.{EachOf, ReadsBit, ReadsPin}
use Rattle.opt_merge.proofs.Sofar.{each_all, each_read, more_both, pin_more}
use Rattle.opt_merge.proofs.reading.add_inputs.Goals as goal

pub loop-name-preserved : goal.loop-name-preserved
loop-name-preserved c = record {
  keeps = λ links are. c.add_signal.ensures.keeps links (c.loop-name.invariant.keeps links are);
  more = more_both c.args.readers.now c.loop-name.readers c.add_signal.new.readers c.loop-name.invariant.more c.in_ok-add_signal.ensures.more;
  reads = λ links are.
      each_read (ReadsPin c.add_signal.new.readers links c.args.at c.args.pins.now) c.args.names.now c.loop-name.name-index _ c.loop-name-test.true
      (λ x i. pin_more c.loop-name.readers c.add_signal.new.readers links c.args.at c.args.pins.now c.in_ok-add_signal.ensures.more x (c.loop-name.invariant.reads links are x i))
      (subst (EachOf (ReadsBit c.add_signal.new.readers links c.args.at)) (c.signal_at.ensures.value ∙ ap (signal_at c.args.pins.now) c.text.ensures.value) (c.in_ok-add_signal.ensures.reads links (c.loop-name.invariant.keeps links are)));
}

pub returns-clause-reads : goal.returns-clause-reads
returns-clause-reads c = λ links are.
    each_all (ReadsPin c.loop-name.readers links c.args.at c.args.pins.now) c.args.names.now c.loop-name.name-index c.loop-name-test.false (c.loop-name.invariant.reads links are)
