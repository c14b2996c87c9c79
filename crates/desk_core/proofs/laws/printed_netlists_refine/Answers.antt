use Rattle.desk_core.proofs.Going.{printed_refines}
use Rattle.desk_core.proofs.laws.printed_netlists_refine.Goals as goal

pub returns : goal.returns
returns c = printed_refines
