-- The lines that are left make what all make.
use Rattle.std.proofs.Common.{◌≡◌, drop}
use Rattle.rtl_ir.specs.Assigns.{tree_bits}
use Rattle.rtl_ir.specs.Follow.{all_joins}
use Rattle.net_index.specs.Builder.{IsInLimits}
use Rattle.match_cells.specs.Trees.{seen}
use Rattle.proc_latch.specs.Steps.{always_steps}
use Rattle.proc_latch.proofs.chains.Chains.always_lines.Given as goal

abbrev pub invariant-loop-line : goal.invariant-loop-line
invariant-loop-line l = record {
  all : always_steps l.root (tree_bits l.root) (all_joins (drop l.line-index l.lines)) (seen l.self.trees) ≡ always_steps l.root (tree_bits l.root) (all_joins l.lines) (seen l.initial.self.trees);
  within : IsInLimits l.initial.self.trees.builder → IsInLimits l.self.trees.builder;
}
