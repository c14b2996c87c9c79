use Rattle.opt_more.proofs.FoldSteps.{reduced_is}
use Rattle.opt_more.proofs.folds.reduced.Goals as goal

pub returns-clause-value : goal.returns-clause-value
returns-clause-value c = λ ports cells links types places aliases.
    reduced_is c.in_ok-neutral.field-0 c.in-Some.neutral ports cells c.args.others.now.done.now c.args.others.now.rest.now.items links c.args.cell c.in_ok-followed.followed.cell c.in_ok-after.after c.in_ok-neutral.ensures.value c.in-Some.is
    (c.in_ok-followed.ensures.value ports links types aliases)
    (c.in_ok-after.ensures.value cells links places (c.followed_cell.ensures.keeps links aliases))
