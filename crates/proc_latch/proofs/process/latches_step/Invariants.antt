-- The processes that are left make what all make.
use Rattle.std.proofs.Common.{◌≡◌, drop}
use Rattle.net_index.specs.Builder.{IsInLimits}
use Rattle.net_model.specs.Proc.Latch.{latches_step}
use Rattle.proc_latch.proofs.process.latches_step.Given as goal

abbrev pub invariant-loop-process : goal.invariant-loop-process
invariant-loop-process l = record {
  all : latches_step (drop l.process-index l.processes) l.builder ≡ latches_step l.processes l.fn.builder;
  within : IsInLimits l.fn.builder → IsInLimits l.builder;
}
