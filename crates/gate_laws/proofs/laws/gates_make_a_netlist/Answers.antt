use Rattle.gate_laws.proofs.Netlists.{gates_netlist}
use Rattle.gate_laws.proofs.laws.gates_make_a_netlist.Goals as goal

pub returns : goal.returns
returns c = record { netlist = gates_netlist }
