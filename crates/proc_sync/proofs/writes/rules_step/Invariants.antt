-- The rules that are left write what all write.
use Rattle.std.proofs.Common.{◌≡◌, drop}
use Rattle.net_index.specs.Builder.{IsInLimits}
use Rattle.net_model.specs.Proc.Sync.{writes_step}
use Rattle.proc_sync.specs.Writer.{body_of, writing_of}
use Rattle.proc_sync.proofs.writes.rules_step.Given as goal

abbrev pub invariant-loop-rule : goal.invariant-loop-rule
invariant-loop-rule l = record {
  body : body_of l.writer ≡ body_of l.initial.writer;
  all : writes_step (body_of l.initial.writer) (drop l.rule-index l.rules) (writing_of l.writer l.builder) ≡ writes_step (body_of l.initial.writer) l.rules (writing_of l.initial.writer l.initial.builder);
  within : IsInLimits l.initial.builder → IsInLimits l.builder;
}
