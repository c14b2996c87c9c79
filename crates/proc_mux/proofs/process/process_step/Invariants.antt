-- The runs that are left make what all make.
use Rattle.std.proofs.Common.{◌≡◌, drop}
use Rattle.net_index.specs.Builder.{IsInLimits}
use Rattle.net_model.specs.Proc.Mux.{tree_runs}
use Rattle.match_cells.specs.Trees.{none_made, seen}
use Rattle.proc_mux.specs.Trees.{runs_step}
use Rattle.proc_mux.proofs.process.process_step.Given as goal

abbrev pub invariant-loop-run : goal.invariant-loop-run
invariant-loop-run l = record {
  all : runs_step l.fn.process.root (drop l.run-index l.run-items) (seen l.trees) ≡ runs_step l.fn.process.root (tree_runs l.fn.process.root) (none_made l.fn.builder l.fn.process.root);
  within : IsInLimits l.fn.builder → IsInLimits l.trees.builder;
}
