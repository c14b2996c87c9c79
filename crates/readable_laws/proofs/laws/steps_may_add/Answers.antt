use Rattle.readable_laws.proofs.Extending.{extended}
use Rattle.readable_laws.proofs.laws.steps_may_add.Goals as goal

pub returns : goal.returns
returns c = record { items = extended }
