-- The lines that are left add what all add.
use Rattle.std.proofs.Common.{◌≡◌, drop}
use Rattle.net_index.specs.Builder.{IsInLimits}
use Rattle.proc_sync.specs.Rules.{lines_step}
use Rattle.proc_sync.specs.Sources.{joins_in}
use Rattle.proc_sync.proofs.rules.lines_step.Given as goal

abbrev pub invariant-loop-line : goal.invariant-loop-line
invariant-loop-line l = record {
  all : lines_step l.form (joins_in l.sources) (drop l.line-index l.lines) l.builder ≡ lines_step l.form (joins_in l.sources) l.lines l.initial.builder;
  within : IsInLimits l.initial.builder → IsInLimits l.builder;
}
