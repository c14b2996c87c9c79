use Rattle.readable_runs.proofs.Driven.{cold_driven}
use Rattle.readable_runs.proofs.Faultless.{cold_accepted, cold_faultless}
use Rattle.readable_runs.proofs.Recursion.{cold_unrecursive}
use Rattle.readable_runs.proofs.laws.cold_runs_are_well_formed.Goals as goal

pub returns : goal.returns
returns c = record {
  one_driver = λ d netlist script readable none stage run. cold_driven d readable none script stage netlist run;
  faultless = λ d netlist script readable none stage run. cold_faultless d readable none script stage netlist run;
  accepted = λ d netlist script readable none stage maps run. cold_accepted d readable none script stage netlist run maps;
  no_recursion = λ d netlist script readable none stage run. cold_unrecursive d readable none script stage netlist run;
}
