use Rattle.std.proofs.Common.{rules, [], subst}
use Rattle.rtl_ir.specs.declared.module.Module.{Module}
use Rattle.net_index.specs.Builder.{PassesLimit}
use Rattle.net_model.specs.Proc.Sync.{lines_step}
use Rattle.proc_sync.specs.Writer.{body_of, writing_of}
use Rattle.proc_sync.proofs.Following.{rule_over}
use Rattle.proc_sync.proofs.writes.rules_step.Goals as goal

pub returns-in_err-writer-clause-over : goal.returns-in_err-writer-clause-over
returns-in_err-writer-clause-over c e =
    rule_over (body_of c.args.writer) c.args.rules.now c.loop-rule.rule-index c.rule-item.result c.loop-rule-test.true c.rule-item.is (writing_of c.loop-rule.writer c.loop-rule.builder) _ c.loop-rule.invariant.all
    (subst (λ (m : Module). PassesLimit (lines_step m c.rule-item.result.event [] c.rule-item.result.writes (writing_of c.loop-rule.writer c.loop-rule.builder)).building) c.loop-rule.invariant.body
    (search (rules, c.lines_step.ensures.over, e, c.from_residual.ensures)))
