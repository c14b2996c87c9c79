use Rattle.std.proofs.Common.{◌+◌}
use Rattle.generated_design.specs.Generate.{registered_sum}
use Rattle.generated_design.proofs.laws.generated_bodies_repeat.Goals as goal

pub returns : goal.returns
returns c = record { equal = λ one other same id i. registered_sum id (same i + 1) }
