use Rattle.sync_laws.proofs.Formed.{stays_ready}
use Rattle.sync_laws.proofs.Steps.{kept_driven, kept_instances, quiet_bits, same_id, same_ports}
use Rattle.sync_laws.proofs.forming.flops_fit.Goals as goal

pub returns : goal.returns
returns c = record {
  same_id = λ ports m ready acts edges quiet. same_id m;
  same_ports = λ ports m ready acts edges quiet. same_ports m;
  same_instances = λ ports m ready acts edges quiet. kept_instances ports m ready acts edges;
  driven = λ ports over m ready acts edges quiet. kept_driven ports over m ready acts edges;
  ready = λ table m acts edges quiet. stays_ready table m acts edges (quiet_bits m quiet);
}
