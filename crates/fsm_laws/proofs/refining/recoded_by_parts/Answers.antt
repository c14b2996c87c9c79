use Rattle.fsm_laws.proofs.Recoding.{recoded_is}
use Rattle.fsm_laws.proofs.refining.recoded_by_parts.Goals as goal

pub returns : goal.returns
returns c = record { parts = recoded_is }
