-- The module is the one that was given, with more cells that were visited.
use Rattle.std.proofs.Common.{◌≡◌, length}
use Rattle.flat_pass.specs.Grown.{IsSound, built}
use Rattle.flat_pass.proofs.grown.Grown.take_first.Given as goal

abbrev pub invariant-loop-cell : goal.invariant-loop-cell
invariant-loop-cell l = record {
  same : built l.self ≡ built l.initial.self;
  sound : IsSound l.self;
}

-- each turn takes a cell
abbrev pub decreases-loop-cell : goal.decreases-loop-cell
decreases-loop-cell l = length l.self.waiting.items
