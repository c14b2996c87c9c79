use Rattle.sync_laws.proofs.Steps.{accesses_stay, words_stay}
use Rattle.sync_laws.proofs.accesses.ports_stay.Goals as goal

pub returns : goal.returns
returns c = record { same_accesses = accesses_stay; same_words = words_stay }
