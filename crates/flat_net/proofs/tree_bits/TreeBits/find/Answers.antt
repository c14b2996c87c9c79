use Rattle.std.proofs.Common.{subst}
use Rattle.flat_net.specs.Trees.{IsFound}
use Rattle.flat_net.proofs.TreeBits.{found_at}
use Rattle.flat_net.proofs.tree_bits.TreeBits.find.Goals as goal

pub returns-clause-found : goal.returns-clause-found
returns-clause-found c = subst (λ bits. IsFound bits c.args.bit c.get_index_of.result) c.self.view_is
    (found_at c.args.bit c.self.inside.bits.keys c.get_index_of.result c.get_index_of.ensures.index c.get_index_of.ensures.found c.self.invariant)
