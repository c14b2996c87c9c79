use Rattle.generated_design.proofs.Faultless.{no_fault}
use Rattle.generated_design.proofs.Readable.{can_be_read}
use Rattle.generated_design.proofs.laws.generated_designs_are_accepted.Goals as goal

pub returns : goal.returns
returns c = record { faultless = no_fault; readable = can_be_read }
