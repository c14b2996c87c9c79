use Rattle.script_core.proofs.FoldLemmas.{mapped, not_mapped}
use Rattle.script_core.proofs.fold.mapped.Goals as goal

pub returns-clause-exact : goal.returns-clause-exact
returns-clause-exact c = mapped c.args.module c.apply_owned.result c.apply_owned.ensures.exact c.apply_owned.ensures.within

pub returns-clause-over : goal.returns-clause-over
returns-clause-over c = not_mapped c.args.module c.apply_owned.result c.apply_owned.ensures.over
