use Rattle.std.proofs.Common.{rules, ◌≡◌, ◌∙◌, subst}
use Rattle.net_index.specs.Builder.{PassesLimit}
use Rattle.net_model.specs.Proc.Sync.{Writing, writes_step}
use Rattle.proc_sync.specs.Writer.{body_of, writing_of}
use Rattle.proc_sync.proofs.Following.{process_goes, process_over}
use Rattle.proc_sync.proofs.writes.writes_step.Goals as goal

pub returns-in_err-writer-clause-over : goal.returns-in_err-writer-clause-over
returns-in_err-writer-clause-over c e =
    let is : writes_step (body_of c.loop-process.writer) c.as_slice.result.now (writing_of c.loop-process.writer c.loop-process.builder) ≡ writes_step (body_of c.args.writer) c.process-item.result.syncs (writing_of c.loop-process.writer c.loop-process.builder) =
    λ i. writes_step (c.loop-process.invariant.body i) (c.as_slice.ensures.value i) (writing_of c.loop-process.writer c.loop-process.builder) in
    process_over (body_of c.args.writer) c.args.processes.now c.loop-process.process-index c.process-item.result c.loop-process-test.true c.process-item.is (writing_of c.loop-process.writer c.loop-process.builder) _ c.loop-process.invariant.all
    (subst (λ (w : Writing). PassesLimit w.building) is (search (rules, c.rules_step.ensures.over, e, c.from_residual.ensures)))

pub loop-process-preserved : goal.loop-process-preserved
loop-process-preserved c =
    let made : writing_of c.in_ok-writer.writer c.rules_step.new.builder ≡ writes_step (body_of c.args.writer) c.process-item.result.syncs (writing_of c.loop-process.writer c.loop-process.builder) =
    c.in_ok-writer.ensures.exact ∙ (λ i. writes_step (c.loop-process.invariant.body i) (c.as_slice.ensures.value i) (writing_of c.loop-process.writer c.loop-process.builder)) in
    record {
      body = c.in_ok-writer.ensures.body ∙ c.loop-process.invariant.body;
      all =
          process_goes (body_of c.args.writer) c.args.processes.now c.loop-process.process-index c.process-item.result c.loop-process-test.true c.process-item.is
          (writing_of c.loop-process.writer c.loop-process.builder) (writing_of c.in_ok-writer.writer c.rules_step.new.builder) _ made c.loop-process.invariant.all;
      within = λ few. c.in_ok-writer.ensures.within (c.loop-process.invariant.within few);
    }
