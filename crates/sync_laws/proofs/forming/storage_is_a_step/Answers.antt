use Rattle.sync_laws.proofs.Steps.{is_step}
use Rattle.sync_laws.proofs.forming.storage_is_a_step.Goals as goal

pub returns : goal.returns
returns c = record { step = is_step }
