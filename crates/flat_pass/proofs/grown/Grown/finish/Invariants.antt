-- The module is the one that was given, with more cells that were visited.
use Rattle.std.proofs.Common.{◌≡◌, length}
use Rattle.flat_pass.specs.Grown.{built}
use Rattle.flat_pass.proofs.grown.Grown.finish.Given as goal

abbrev pub invariant-loop-cell : goal.invariant-loop-cell
invariant-loop-cell l = (built l.self).body ≡ (built l.fn.self).body

-- each turn takes a cell
abbrev pub decreases-loop-cell : goal.decreases-loop-cell
decreases-loop-cell l = length l.self.waiting.items
