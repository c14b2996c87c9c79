use Rattle.map_laws.proofs.FreshNames.{number_of_made}
use Rattle.map_laws.proofs.laws.fresh_names_are_new.Goals as goal

pub returns : goal.returns
returns c = record { number = number_of_made }
