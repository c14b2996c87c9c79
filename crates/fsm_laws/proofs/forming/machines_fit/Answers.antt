use Rattle.fsm_laws.proofs.InTurn.{all_formed}
use Rattle.fsm_laws.proofs.forming.machines_fit.Goals as goal

pub returns : goal.returns
returns c = record {
  same_id = λ ports m ready short. (all_formed ports m ready short).id;
  same_ports = λ ports m ready short. (all_formed ports m ready short).same_ports;
  same_instances = λ ports m ready short. (all_formed ports m ready short).same_instances;
  same_memories = λ ports m ready short. (all_formed ports m ready short).memories;
  same_processes = λ ports m ready short. (all_formed ports m ready short).processes;
  driven = λ ports over m ready short. (all_formed ports m ready short).driven over;
  ready = λ ports m ready short. (all_formed ports m ready short).ready;
  named = λ ports m ready short. (all_formed ports m ready short).named;
}
