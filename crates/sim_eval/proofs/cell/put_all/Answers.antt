use Rattle.std.proofs.Common.{◌∙◌, sym}
use Rattle.flat_net.specs.declared.net.Output.{Output}
use Rattle.sim_eval.specs.Numbers.{worked_bit}
use Rattle.sim_eval.proofs.Taking.{fewer_more, takes_next}
use Rattle.sim_eval.proofs.cell.put_all.Goals as goal

pub loop-output-preserved : goal.loop-output-preserved
loop-output-preserved c = record {
  fewer = fewer_more _ _ _ _ _ c.loop-output.invariant.fewer c.put-changed.ensures.fewer;
  takes = λ ps apart same within.
      takes_next ps (λ (o : Output). o.number) (λ (o : Output). worked_bit c.args.worked.now o.at) c.args.outputs.now c.loop-output.output-index _ _ _ _ _ _ _ c.loop-output-test.true apart (same ∙ sym c.loop-output.auto.now) within
      c.bit_of.ensures.value c.put-changed.ensures.value c.put-changed.ensures.gains (c.loop-output.invariant.takes ps apart same within);
}
