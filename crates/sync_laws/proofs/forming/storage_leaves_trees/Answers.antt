use Rattle.sync_laws.proofs.Steps.{are_ruled, none_left}
use Rattle.sync_laws.proofs.forming.storage_leaves_trees.Goals as goal

pub returns : goal.returns
returns c = record { no_lines = none_left; ruled = are_ruled }
