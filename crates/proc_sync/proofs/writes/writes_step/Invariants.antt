-- The processes that are left write what all write.
use Rattle.std.proofs.Common.{◌≡◌, drop}
use Rattle.std.specs.Prelude.{flat_map}
use Rattle.rtl_ir.specs.declared.process.Process.{Process}
use Rattle.net_index.specs.Builder.{IsInLimits}
use Rattle.net_model.specs.Proc.Sync.{writes_step}
use Rattle.proc_sync.specs.Writer.{body_of, writing_of}
use Rattle.proc_sync.proofs.writes.writes_step.Given as goal

abbrev pub invariant-loop-process : goal.invariant-loop-process
invariant-loop-process l = record {
  body : body_of l.writer ≡ body_of l.initial.writer;
  all : writes_step (body_of l.initial.writer) (flat_map (λ (p : Process). p.syncs) (drop l.process-index l.processes)) (writing_of l.writer l.builder) ≡ writes_step (body_of l.initial.writer) (flat_map (λ (p : Process). p.syncs) l.processes) (writing_of l.initial.writer l.initial.builder);
  within : IsInLimits l.initial.builder → IsInLimits l.builder;
}
