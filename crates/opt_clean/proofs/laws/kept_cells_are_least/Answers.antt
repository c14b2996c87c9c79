use Rattle.opt_clean.proofs.Reasons.{kept_reason, reason_kept}
use Rattle.opt_clean.proofs.laws.kept_cells_are_least.Goals as goal

pub returns-clause-reason : goal.returns-clause-reason
returns-clause-reason c = kept_reason

pub returns-clause-kept : goal.returns-clause-kept
returns-clause-kept c = reason_kept
