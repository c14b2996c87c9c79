use Rattle.fsm_laws.proofs.Refined.{refines}
use Rattle.fsm_laws.proofs.refining.recodes_refine.Goals as goal

pub returns : goal.returns
returns c = record { refines = refines }
