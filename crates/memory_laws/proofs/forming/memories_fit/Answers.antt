use Rattle.std.proofs.Common.{[]}
use Rattle.memory_laws.proofs.Turned.{expanded, no_cell, no_memory, no_process}
use Rattle.memory_laws.proofs.forming.memories_fit.Goals as goal

pub returns : goal.returns
returns c = record {
  same_id = λ ports m ready named short. (expanded ports m ready named short (λ n. [])).id;
  same_ports = λ ports m ready named short. (expanded ports m ready named short (λ n. [])).same_ports;
  same_instances = λ ports m ready named short. (expanded ports m ready named short (λ n. [])).same_instances;
  driven = λ ports over m ready named short h. (expanded ports m ready named short over).driven over h;
  ready = λ ports m ready named short. (expanded ports m ready named short (λ n. [])).ready;
  gone = no_memory;
  process_free = no_process;
  cells_gone = no_cell;
}
