use Rattle.reset_laws.proofs.RuledTrees.{trees_placed}
use Rattle.reset_laws.proofs.forming.read_trees_have_bits.Goals as goal

pub returns : goal.returns
returns c = record { trees = trees_placed }
