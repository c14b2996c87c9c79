use Rattle.std.proofs.Common.{◌∙◌, arith, false, get_or, refl}
use Rattle.rtl_ir.proofs.LineMarks.{mark_goes, marks_end}
use Rattle.rtl_ir.proofs.line_masks.followed.Goals as goal

pub loop-at-preserved : goal.loop-at-preserved
loop-at-preserved c = record {
  long = c.put_mark.ensures.length ∙ c.loop-at.invariant.long;
  all = λ k h.
      mark_goes k c.args.before.now c.args.mask.now c.loop-at.at _ _ _ _ (omega (arith, c.min-at-end.ensures)) (omega (arith, c.min-at-end.ensures)) refl refl (get_or c.loop-at.marks.items k false) (get_or c.put_mark.new.marks.items k false) _
      (c.put_mark.ensures.marks k (omega (arith, h, c.loop-at.invariant.long))) (c.loop-at.invariant.all k h);
}

pub returns-clause-value : goal.returns-clause-value
returns-clause-value c k h =
    marks_end k c.args.before.now c.args.mask.now c.loop-at.at (omega (arith, c.min-at-end.ensures)) (get_or c.loop-at.marks.items k false) _ (c.loop-at.invariant.all k h)
