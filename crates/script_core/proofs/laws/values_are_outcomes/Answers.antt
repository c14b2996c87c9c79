use Rattle.script_core.proofs.Refining.{value_named}
use Rattle.script_core.proofs.laws.values_are_outcomes.Goals as goal

pub returns : goal.returns
returns c = λ d at m script outcome readable here value. value_named d readable at m here script outcome value
