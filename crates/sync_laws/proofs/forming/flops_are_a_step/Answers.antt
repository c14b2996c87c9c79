use Rattle.sync_laws.proofs.Steps.{is_step}
use Rattle.sync_laws.proofs.forming.flops_are_a_step.Goals as goal

pub returns : goal.returns
returns c = record { step = λ table m ready acts edges quiet starts. is_step table m ready acts edges starts }
