-- The lines that are left become the ports that all become.
use Rattle.std.proofs.Common.{◌≡◌, ◌≤◌, [], drop, length}
use Rattle.net_index.specs.Builder.{IsInLimits}
use Rattle.net_model.specs.Proc.Sync.{lines_step}
use Rattle.proc_sync.specs.Writer.{body_of, done_of, writing_of}
use Rattle.proc_sync.proofs.writes.lines_step.Given as goal

abbrev pub invariant-loop-line : goal.invariant-loop-line
invariant-loop-line l = record {
  body : body_of l.writer ≡ body_of l.initial.writer;
  few : l.start ≤ length (done_of l.writer);
  all : lines_step (body_of l.initial.writer) l.rule.event (drop l.start (done_of l.writer)) (drop l.line-index l.line-items) (writing_of l.writer l.builder) ≡ lines_step (body_of l.initial.writer) l.rule.event [] l.rule.writes (writing_of l.initial.writer l.initial.builder);
  within : IsInLimits l.initial.builder → IsInLimits l.builder;
}
