use Rattle.gate_nets.proofs.Lawful.{sum_computes}
use Rattle.gate_nets.proofs.laws.sums_add.Goals as goal

pub returns : goal.returns
returns c = record { sum = λ f is a b carry old e j k l. sum_computes f is a b carry old e j k l }
