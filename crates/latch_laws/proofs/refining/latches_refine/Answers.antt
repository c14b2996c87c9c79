use Rattle.latch_laws.proofs.RowsMet.{refines}
use Rattle.latch_laws.proofs.refining.latches_refine.Goals as goal

pub returns : goal.returns
returns c = record { refines = refines }
