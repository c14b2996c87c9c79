-- The processes that are left add what all add.
use Rattle.std.proofs.Common.{◌≡◌, drop}
use Rattle.rtl_ir.specs.Rules.{acting_rules}
use Rattle.rtl_ir.specs.declared.process.Process.{Process}
use Rattle.net_index.specs.Builder.{IsInLimits}
use Rattle.net_model.specs.Proc.Sync.{in_turn, rules_step}
use Rattle.proc_sync.proofs.process.processes_step.Given as goal

abbrev pub invariant-loop-process : goal.invariant-loop-process
invariant-loop-process l = record {
  all : in_turn (λ (p : Process). rules_step (acting_rules p.syncs)) (drop l.process-index l.processes) l.builder ≡ in_turn (λ (p : Process). rules_step (acting_rules p.syncs)) l.processes l.initial.builder;
  within : IsInLimits l.initial.builder → IsInLimits l.builder;
}
