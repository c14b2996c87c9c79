-- The processes that are left make what all make.
use Rattle.std.proofs.Common.{◌≡◌, drop}
use Rattle.net_index.specs.Builder.{IsInLimits}
use Rattle.net_model.specs.Proc.Mux.{processes_step}
use Rattle.proc_mux.proofs.process.processes_step.Given as goal

abbrev pub invariant-loop-process : goal.invariant-loop-process
invariant-loop-process l = record {
  all : processes_step l.builder (drop l.process-index l.processes) ≡ processes_step l.fn.builder l.processes;
  within : IsInLimits l.fn.builder → IsInLimits l.builder;
}
