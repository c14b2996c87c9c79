use Rattle.std.proofs.Common.{sym}
use Rattle.opt_more.specs.Reduce.{standing_for}
use Rattle.opt_more.proofs.Stopping.{stays_over}
use Rattle.opt_more.proofs.folds.add_standing.Goals as goal

pub returns-then-is_over-clause-bits : goal.returns-then-is_over-clause-bits
returns-then-is_over-clause-bits c = λ cells links places aliases.
    stays_over c.args.neutral (standing_for c.args.neutral cells c.args.others.now.done.now c.args.others.now.rest.now.items links c.args.bit) c.args.bits.now.bits (sym c.if-is_over.ensures.value)
