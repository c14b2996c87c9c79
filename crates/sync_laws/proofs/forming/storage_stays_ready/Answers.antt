use Rattle.sync_laws.proofs.Formed.{stays_ready}
use Rattle.sync_laws.proofs.forming.storage_stays_ready.Goals as goal

pub returns : goal.returns
returns c = record { ready = stays_ready }
