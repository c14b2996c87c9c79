use Rattle.gate_cones.proofs.Adding.{gates_added}
use Rattle.gate_cones.proofs.laws.gates_may_be_added.Goals as goal

pub returns : goal.returns
returns c = record { pass = gates_added }
