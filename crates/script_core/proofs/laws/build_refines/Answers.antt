use Rattle.script_core.proofs.Flattening.{value_below}
use Rattle.script_core.proofs.Refining.{value_refines}
use Rattle.script_core.proofs.laws.build_refines.Goals as goal

pub returns : goal.returns
returns c = record {
  ports = λ d at before after script readable none here stage plain value name. value_refines d readable at before here script none stage plain after value name;
  below = λ d netlist at before after script readable none here flat value there. value_below d readable none at before here script flat after value netlist there;
}
