-- The places that are left make what all make.
use Rattle.std.proofs.Common.{◌≡◌, drop}
use Rattle.rtl_ir.specs.Assigns.{tree_bits}
use Rattle.rtl_ir.specs.Follow.{joins}
use Rattle.net_index.specs.Builder.{IsInLimits}
use Rattle.match_cells.specs.Trees.{seen}
use Rattle.proc_latch.specs.Steps.{always_steps}
use Rattle.proc_latch.proofs.chains.Chains.always_line.Given as goal

abbrev pub invariant-loop-at : goal.invariant-loop-at
invariant-loop-at l = record {
  all : always_steps l.root (tree_bits l.root) (joins (drop l.at l.left) (drop l.at l.right)) (seen l.self.trees) ≡ always_steps l.root (tree_bits l.root) (joins l.left l.right) (seen l.initial.self.trees);
  within : IsInLimits l.initial.self.trees.builder → IsInLimits l.self.trees.builder;
}
