use Rattle.net_model.proofs.Settled.{stable}
use Rattle.net_model.proofs.laws.settling_is_stable.Goals as goal

pub returns : goal.returns
returns c = record { stable = stable }
