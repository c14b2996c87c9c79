use Rattle.std.proofs.Common.{rules}
use Rattle.flat_pass.specs.Grown.{built}
use Rattle.flat_pass.proofs.Promises.{flattened}
use Rattle.flat_pass.proofs.Turning.{flat_is, flat_none}
use Rattle.flat_pass.proofs.flatten.Goals as goal

pub returns-in_err-replace_all-clause-over : goal.returns-in_err-replace_all-clause-over
returns-in_err-replace_all-clause-over c = λ e.
    flat_none c.args.below.now c.args.module.now (built c.in_ok-grown.grown) c.in_ok-grown.ensures.value (c.replace_all.ensures.over c.args.below.now c.in_ok-children.ensures.value (search (rules, e, c.from_residual-in_err-replace_all.ensures)))

pub returns-clause-exact : goal.returns-clause-exact
returns-clause-exact c =
    flat_is c.args.below.now c.args.module.now (built c.in_ok-grown.grown) (built c.replace_all.new.grown) c.in_ok-finish.field-0 c.in_ok-grown.ensures.value (c.in_ok-replace_all.ensures.exact c.args.below.now c.in_ok-children.ensures.value) c.in_ok-finish.ensures.value

pub returns-clause-pass : goal.returns-clause-pass
returns-clause-pass c = λ stands.
    flattened c.args.below.now c.args.module.now c.in_ok-finish.field-0 stands (flat_is c.args.below.now c.args.module.now (built c.in_ok-grown.grown) (built c.replace_all.new.grown) c.in_ok-finish.field-0 c.in_ok-grown.ensures.value (c.in_ok-replace_all.ensures.exact c.args.below.now c.in_ok-children.ensures.value) c.in_ok-finish.ensures.value)
