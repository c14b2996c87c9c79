use Rattle.gate_nets.proofs.Lawful.{inverse_computes}
use Rattle.gate_nets.proofs.laws.inverses_invert.Goals as goal

pub returns : goal.returns
returns c = record { inverse = λ f is bits old. inverse_computes f is bits old }
