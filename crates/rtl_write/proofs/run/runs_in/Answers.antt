use Rattle.std.proofs.Common.{arith, sym, ◌∙◌}
use Rattle.std.proofs.lemmas.List.{reverse-append}
use Rattle.rtl_write.proofs.RunLemmas.{cut_on, cut_new}
use Rattle.rtl_write.proofs.run.runs_in.Goals as goal
use Rattle.rtl_write.proofs.run.runs_in.Goals.{then-not-goes_on+in_ok-push, else-not-goes_on}

pub loop-at-preserved : goal.loop-at-preserved
loop-at-preserved c =
    let inv = c.loop-at.invariant in
    elim c.if-not-goes_on.branch [
      | then-not-goes_on+in_ok-push w ↦
          rw (w.from-is, w.runs-is, w.in_ok-push.ensures.items, reverse-append c.loop-at.runs.items _) (record {
            open_run = omega arith;
            cut = cut_new c.args.bits.now c.loop-at.from c.loop-at.at _ inv.open_run c.loop-at-test.true (sym c.goes_on.ensures.value ∙ w.if-not-goes_on.true) inv.cut;
          })
      | else-not-goes_on w ↦
          rw (w.from-is, w.runs-is) (record {
            open_run = omega arith;
            cut = cut_on c.args.bits.now c.loop-at.from c.loop-at.at _ inv.open_run c.loop-at-test.true (sym c.goes_on.ensures.value ∙ w.if-not-goes_on.false) inv.cut;
          })
    ]
