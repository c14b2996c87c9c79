use Rattle.memory_laws.proofs.Refined.{refines}
use Rattle.memory_laws.proofs.refining.words_refine.Goals as goal

pub returns : goal.returns
returns c = record { refines = refines }
