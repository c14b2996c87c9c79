use Rattle.net_model.proofs.Settled.{least_below, least_flat}
use Rattle.net_model.proofs.laws.settling_is_least.Goals as goal

pub returns-clause-below : goal.returns-clause-below
returns-clause-below c = least_below

pub returns-clause-flat : goal.returns-clause-flat
returns-clause-flat c = least_flat
