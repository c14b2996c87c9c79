use Rattle.readable_runs.proofs.Cold.{value_reads}
use Rattle.readable_runs.proofs.laws.built_modules_are_readable.Goals as goal

pub returns : goal.returns
returns c = λ d at before after script readable short all none here stage value. value_reads d readable at before here script none stage short all after value
