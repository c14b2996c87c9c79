use Rattle.fsm_laws.proofs.InTurn.{one_formed}
use Rattle.fsm_laws.proofs.forming.recoded_fits.Goals as goal

pub returns : goal.returns
returns c = record {
  same_id = λ ports m at machine ready is few. (one_formed ports m at machine ready is few).id;
  same_ports = λ ports m at machine ready is few. (one_formed ports m at machine ready is few).same_ports;
  same_instances = λ ports m at machine ready is few. (one_formed ports m at machine ready is few).same_instances;
  same_memories = λ ports m at machine ready is few. (one_formed ports m at machine ready is few).memories;
  same_processes = λ ports m at machine ready is few. (one_formed ports m at machine ready is few).processes;
  driven = λ ports over m at machine ready is few. (one_formed ports m at machine ready is few).driven over;
  ready = λ ports m at machine ready is few. (one_formed ports m at machine ready is few).ready;
  named = λ ports m at machine ready is few. (one_formed ports m at machine ready is few).named;
}
