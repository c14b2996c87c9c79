use Rattle.fsm_laws.proofs.MachinesRefined.{recoded_refines}
use Rattle.fsm_laws.proofs.refining.recoded_refines.Goals as goal

pub returns : goal.returns
returns c = record {
  refines = λ table m at machine ready is. recoded_refines table m ready at machine is;
}
