use Rattle.sync_laws.proofs.Written.{refines}
use Rattle.sync_laws.proofs.refining.storage_refines.Goals as goal

pub returns : goal.returns
returns c = record { refines = refines }
