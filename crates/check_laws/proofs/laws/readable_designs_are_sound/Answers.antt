use Rattle.check_laws.proofs.Readable.{sound}
use Rattle.check_laws.proofs.laws.readable_designs_are_sound.Goals as goal

pub returns : goal.returns
returns c = record { sound = sound }
