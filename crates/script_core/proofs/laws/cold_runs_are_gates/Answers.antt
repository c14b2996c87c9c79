use Rattle.script_core.proofs.Refining.{cold_gates}
use Rattle.script_core.proofs.laws.cold_runs_are_gates.Goals as goal

pub returns : goal.returns
returns c = λ d netlist script readable none stage all run. cold_gates d readable none script stage netlist run all
