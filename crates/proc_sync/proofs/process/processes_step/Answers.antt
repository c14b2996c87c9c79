use Rattle.std.proofs.Common.{rules, subst}
use Rattle.rtl_ir.specs.Rules.{acting_rules}
use Rattle.rtl_ir.specs.declared.process.Process.{Process}
use Rattle.net_index.specs.Builder.{PassesLimit}
use Rattle.net_model.specs.Proc.Sync.{rules_step}
use Rattle.proc_sync.proofs.Exact.{process_grows}
use Rattle.proc_sync.proofs.Turning.{turn_over}
use Rattle.proc_sync.proofs.process.processes_step.Goals as goal

pub returns-in_err-rules_step-clause-over : goal.returns-in_err-rules_step-clause-over
returns-in_err-rules_step-clause-over c e =
    turn_over (λ (p : Process). rules_step (acting_rules p.syncs)) c.args.processes.now c.loop-process.process-index c.process-item.result c.loop-process-test.true c.process-item.is process_grows c.loop-process.builder _ c.loop-process.invariant.all
    (subst (λ rs. PassesLimit (rules_step (acting_rules rs) c.loop-process.builder)) c.as_slice.ensures.value (search (rules, c.rules_step.ensures.over, e, c.from_residual.ensures)))
