use Rattle.sync_laws.proofs.Steps.{same_driven, same_id, same_instances, same_ports}
use Rattle.sync_laws.proofs.forming.storage_fits.Goals as goal

pub returns : goal.returns
returns c = record {
  same_id = same_id;
  same_ports = same_ports;
  same_instances = same_instances;
  driven = same_driven;
}
