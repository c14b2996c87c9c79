use Rattle.script_core.proofs.Refining.{cold_refines}
use Rattle.script_core.proofs.laws.cold_runs_refine.Goals as goal

pub returns : goal.returns
returns c = λ d netlist script readable none stage run. cold_refines d readable none script stage netlist run
