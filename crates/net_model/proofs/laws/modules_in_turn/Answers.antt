use Rattle.net_model.proofs.Composing.{each_refines}
use Rattle.net_model.proofs.laws.modules_in_turn.Goals as goal

pub returns : goal.returns
returns c = record { refines = each_refines }
