use Rattle.fsm_laws.proofs.MachinesRefined.{machines_refine}
use Rattle.fsm_laws.proofs.refining.machines_refine.Goals as goal

pub returns : goal.returns
returns c = record { refines = machines_refine }
