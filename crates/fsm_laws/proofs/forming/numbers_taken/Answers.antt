use Rattle.fsm_laws.proofs.NumbersTaken.{taken}
use Rattle.fsm_laws.proofs.forming.numbers_taken.Goals as goal

pub returns : goal.returns
returns c = record { next = taken }
