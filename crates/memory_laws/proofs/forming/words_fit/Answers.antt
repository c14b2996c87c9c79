use Rattle.memory_laws.proofs.Faulting.{even, faultless}
use Rattle.memory_laws.proofs.Formed as formed
use Rattle.memory_laws.proofs.Readied.{still_named, still_ready}
use Rattle.memory_laws.proofs.forming.words_fit.Goals as goal

pub returns : goal.returns
returns c = record {
  same_id = formed.same_id;
  same_ports = formed.same_ports;
  same_instances = formed.same_instances;
  driven = λ ports over m s at ready named there few h. formed.driven ports m s at ready named there few over h;
  ready = still_ready;
  named = still_named;
  faultless = faultless;
  even = even;
}
