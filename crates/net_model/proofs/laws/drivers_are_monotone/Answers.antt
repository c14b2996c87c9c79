use Rattle.rtl_bits.specs.Knowledge.{Below, FlatBelow}
use Rattle.net_model.proofs.Orders.{below, flat}
use Rattle.net_model.proofs.Drivers.{value_kept}
use Rattle.net_model.proofs.laws.drivers_are_monotone.Goals as goal

pub returns-clause-below : goal.returns-clause-below
returns-clause-below c = value_kept Below below

pub returns-clause-flat : goal.returns-clause-flat
returns-clause-flat c = value_kept FlatBelow flat
