use Rattle.script_core.proofs.Renaming.{fold_renamed}
use Rattle.script_core.proofs.laws.folds_keep_names.Goals as goal

pub returns : goal.returns
returns c = λ script table below m id. fold_renamed id script table below m
