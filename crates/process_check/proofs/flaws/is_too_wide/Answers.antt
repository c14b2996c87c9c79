use Rattle.std.proofs.Common.{◌∙◌}
use Rattle.process_check.proofs.FlawLemmas.{too_wide_is}
use Rattle.process_check.proofs.flaws.is_too_wide.Goals as goal

pub returns : goal.returns
returns c = record { value = c.has.ensures.value ∙ too_wide_is c.args.process.now }
