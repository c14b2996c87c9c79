use Rattle.net_model.proofs.Composing.{Refines_trans}
use Rattle.net_model.proofs.laws.refinement_is_transitive.Goals as goal

pub returns : goal.returns
returns c = record { transitive = Refines_trans }
