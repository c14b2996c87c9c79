-- The runs that are left add what all add.
use Rattle.std.proofs.Common.{◌≡◌, drop, map}
use Rattle.net_index.specs.Builder.{IsInLimits}
use Rattle.net_model.specs.Proc.Sync.{in_turn}
use Rattle.proc_sync.specs.Rules.{line_step, run_cell}
use Rattle.proc_sync.specs.Runs.{run_of}
use Rattle.proc_sync.specs.Sources.{joins_in}
use Rattle.proc_sync.proofs.rules.line_step.Given as goal

abbrev pub invariant-loop-run : goal.invariant-loop-run
invariant-loop-run l = record {
  all : in_turn (run_cell l.form (joins_in l.sources)) (map run_of (drop l.run-index l.run-items)) l.builder ≡ line_step l.form (joins_in l.sources) l.line l.initial.builder;
  within : IsInLimits l.initial.builder → IsInLimits l.builder;
}
