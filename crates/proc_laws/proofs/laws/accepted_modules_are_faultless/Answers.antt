use Rattle.proc_laws.proofs.Taking.{accepted_faultless}
use Rattle.proc_laws.proofs.laws.accepted_modules_are_faultless.Goals as goal

pub returns : goal.returns
returns c = record { faultless = accepted_faultless }
