use Rattle.std.proofs.Common.{◌∙◌, subst}
use Rattle.rtl_ir.specs.Parameters.{signal_at}
use Rattle.opt_more.specs.Gather.{AreAlike}
use Rattle.opt_more.specs.Reduce.{gathered}
use Rattle.opt_more.proofs.Stopping.{alike_reduced}
use Rattle.opt_more.proofs.folds.reduced_fold.Goals as goal

pub returns-clause-value : goal.returns-clause-value
returns-clause-value c = λ cells links places aliases.
    c.in_ok-after.ensures.value
    ∙ alike_reduced c.in_ok-bits.bits _ c.args.cell
    (subst (λ z. AreAlike c.in_ok-bits.bits (gathered c.args.neutral cells c.args.others.now.done.now c.args.others.now.rest.now.items links z)) (c.signal_at-inputs.ensures.value ∙ (λ i. signal_at (c.as_slice.ensures.value i) (c.text.ensures.value i))) (c.in_ok-bits.ensures.value cells links places aliases))
