use Rattle.sync_laws.proofs.Written.{refines}
use Rattle.sync_laws.proofs.refining.flops_refine.Goals as goal

pub returns : goal.returns
returns c = record { refines = λ table m ready acts edges quiet starts. refines table m ready acts edges starts }
