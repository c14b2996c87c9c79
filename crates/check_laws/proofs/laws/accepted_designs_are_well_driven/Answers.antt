use Rattle.rtl_ir.specs.Scope.{everything}
use Rattle.check_laws.proofs.Accepted.{accepted}
use Rattle.check_laws.proofs.laws.accepted_designs_are_well_driven.Goals as goal

pub returns : goal.returns
returns c = record { within = accepted; all = accepted everything }
