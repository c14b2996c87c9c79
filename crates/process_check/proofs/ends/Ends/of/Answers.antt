use Rattle.std.proofs.Common.{◌+◌, ◌∙◌, ap, subst, sym}
use Rattle.process_check.specs.Ends.{AreEnding}
use Rattle.process_check.specs.Search.{rows_of}
use Rattle.process_check.proofs.ends.Ends.of.Goals as goal

pub loop-at-preserved : goal.loop-at-preserved
loop-at-preserved c = record {
  ending = subst (λ marks. AreEnding (rows_of c.args.graph.now) marks.items) (sym c.in_ok-add.ensures.ending) c.loop-at.invariant.ending;
  left = c.in_ok-add.ensures.left ∙ ap (λ n. n + 1) c.loop-at.invariant.left;
  waiting = c.in_ok-add.ensures.waiting _ c.loop-at-test.true c.loop-at.invariant.waiting;
}
