use Rattle.mux_laws.proofs.FormingModule.{mux_step}
use Rattle.mux_laws.proofs.forming.multiplexers_are_a_step.Goals as goal

pub returns : goal.returns
returns c = record { step = mux_step }
