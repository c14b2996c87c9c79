use Rattle.opt_rounds.proofs.Rounding.{opt_stops}
use Rattle.opt_rounds.proofs.laws.rounds_end.Goals as goal

pub returns : goal.returns
returns c = λ ports n m few same. opt_stops ports n m few same
