use Rattle.std.proofs.Common.{◌∙◌}
use Rattle.process_check.proofs.FlawLemmas.{uneven_is}
use Rattle.process_check.proofs.flaws.has_uneven.Goals as goal

pub returns : goal.returns
returns c = record { value = c.has.ensures.value ∙ uneven_is c.args.process.now }
