use Rattle.mux_laws.proofs.TreeRefining.{refines}
use Rattle.mux_laws.proofs.refining.multiplexers_refine.Goals as goal

pub returns : goal.returns
returns c = record { refines = refines }
