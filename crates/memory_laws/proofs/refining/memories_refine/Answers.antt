use Rattle.memory_laws.proofs.Turned.{refines}
use Rattle.memory_laws.proofs.refining.memories_refine.Goals as goal

pub returns : goal.returns
returns c = record { refines = refines }
