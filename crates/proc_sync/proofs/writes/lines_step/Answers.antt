use Rattle.std.proofs.Common.{rules, ◌≡◌, ◌∙◌, ap, subst}
use Rattle.rtl_ir.specs.declared.module.Module.{Module}
use Rattle.net_index.specs.Builder.{PassesLimit}
use Rattle.proc_sync.specs.Writer.{body_of, writing_of}
use Rattle.proc_sync.specs.Writes.{line_step}
use Rattle.proc_sync.proofs.Following.{line_goes, line_longer, line_over}
use Rattle.proc_sync.proofs.writes.lines_step.Goals as goal

pub returns-in_err-writer-clause-over : goal.returns-in_err-writer-clause-over
returns-in_err-writer-clause-over c e =
    line_over (body_of c.args.writer) c.args.rule.now.event c.count-start.result c.as_slice-line-items.result.now c.loop-line.line-index c.line-item.result c.loop-line-test.true c.line-item.is
    (writing_of c.loop-line.writer c.loop-line.builder) _ c.loop-line.invariant.few c.loop-line.invariant.all
    (subst (λ (m : Module). PassesLimit (line_step m c.args.rule.now.event c.count-start.result c.line-item.result (writing_of c.loop-line.writer c.loop-line.builder)).building) c.loop-line.invariant.body
    (search (rules, c.line_step.ensures.over, e, c.from_residual.ensures)))

pub loop-line-preserved : goal.loop-line-preserved
loop-line-preserved c =
    let made : writing_of c.in_ok-writer.writer c.line_step.new.builder ≡ line_step (body_of c.args.writer) c.args.rule.now.event c.count-start.result c.line-item.result (writing_of c.loop-line.writer c.loop-line.builder) =
    c.in_ok-writer.ensures.exact
    ∙ ap (λ (m : Module). line_step m c.args.rule.now.event c.count-start.result c.line-item.result (writing_of c.loop-line.writer c.loop-line.builder)) c.loop-line.invariant.body in
    record {
      body = c.in_ok-writer.ensures.body ∙ c.loop-line.invariant.body;
      few = line_longer (body_of c.args.writer) c.args.rule.now.event c.count-start.result c.line-item.result (writing_of c.loop-line.writer c.loop-line.builder) (writing_of c.in_ok-writer.writer c.line_step.new.builder) c.loop-line.invariant.few made;
      all =
          line_goes (body_of c.args.writer) c.args.rule.now.event c.count-start.result c.as_slice-line-items.result.now c.loop-line.line-index c.line-item.result c.loop-line-test.true c.line-item.is
          (writing_of c.loop-line.writer c.loop-line.builder) (writing_of c.in_ok-writer.writer c.line_step.new.builder) _ c.loop-line.invariant.few made c.loop-line.invariant.all;
      within = λ few. c.in_ok-writer.ensures.within (c.loop-line.invariant.within few);
    }
