use Rattle.net_model.proofs.Settled.{solution}
use Rattle.net_model.proofs.laws.settling_is_a_solution.Goals as goal

pub returns : goal.returns
returns c = record { solution = solution }
