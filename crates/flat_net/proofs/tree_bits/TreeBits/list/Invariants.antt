-- The list so far is that of the bits from the place on.
use Rattle.std.proofs.Common.{◌≡◌, drop}
use Rattle.std.specs.Prelude.{reverse}
use Rattle.flat_net.proofs.tree_bits.TreeBits.list.Given as goal

abbrev pub invariant-loop-at : goal.invariant-loop-at
invariant-loop-at l = l.list.items ≡ reverse (drop l.at l.self)
