use Rattle.readable_passes.proofs.Machines.{fsm_reads}
use Rattle.readable_passes.proofs.laws.modules_with_codes_are_readable.Goals as goal

pub returns : goal.returns
returns c = record { coded = fsm_reads }
