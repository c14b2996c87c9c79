use Rattle.net_model.proofs.Settled.{reached, stays_below}
use Rattle.net_model.proofs.laws.drivers_may_go_in_any_order.Goals as goal

pub returns-clause-below : goal.returns-clause-below
returns-clause-below c = stays_below

pub returns-clause-reached : goal.returns-clause-reached
returns-clause-reached c = reached
