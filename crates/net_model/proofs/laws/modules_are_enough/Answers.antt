use Rattle.net_model.proofs.WellDriven.{one_driver}
use Rattle.net_model.proofs.laws.modules_are_enough.Goals as goal

pub returns : goal.returns
returns c = record { one_driver = one_driver }
