use Rattle.std.proofs.Common.{◌∙◌}
use Rattle.process_check.proofs.FlawLemmas.{constant_is}
use Rattle.process_check.proofs.flaws.gives_to_constant.Goals as goal

pub returns : goal.returns
returns c = record { value = c.has.ensures.value ∙ constant_is c.args.process.now }
