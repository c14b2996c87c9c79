use Rattle.std.proofs.Common.{◌+◌, List, drop, ◌∙◌}
use Rattle.std.proofs.lemmas.List.{at_drop_more}
use Rattle.synth_run.specs.declared.routes.Tag.{Tag}
use Rattle.synth_run.proofs.Written.{on_err, written_cut, written_next}
use Rattle.synth_run.proofs.desks.write_all.Goals as goal

pub returns-in_err-write_part-clause-err : goal.returns-in_err-write_part-clause-err
returns-in_err-write_part-clause-err g c =
    on_err c.from_residual.result
    (written_cut c.args.parts.now c.args.answers.now c.loop-part.writer c.write_part.new.self _ (drop c.loop-part.part-index c.args.parts.now) (drop (c.loop-part.part-index + 1) c.args.parts.now)
    (g.K.Sink.held c.args.sink.now) (g.K.Sink.held c.loop-part.sink) (g.K.Sink.held c.write_part.new.sink)
    (at_drop_more (λ (tags : List Tag). tags) c.args.parts.now c.loop-part.part-index _ c.loop-part-test.true) c.loop-part.invariant.written c.in_err-write_part.ensures.err)

pub loop-part-preserved : goal.loop-part-preserved
loop-part-preserved g c = record {
  written =
      written_next c.args.parts.now c.args.answers.now c.loop-part.writer c.write_part.new.self _ (drop c.loop-part.part-index c.args.parts.now)
      (drop (c.loop-part.part-index + 1) c.args.parts.now) (g.K.Sink.held c.args.sink.now) (g.K.Sink.held c.loop-part.sink) (g.K.Sink.held c.write_part.new.sink)
      (at_drop_more (λ (tags : List Tag). tags) c.args.parts.now c.loop-part.part-index _ c.loop-part-test.true) c.loop-part.invariant.written c.in_ok-write_part.ensures.ok;
  same = c.in_ok-write_part.ensures.same (λ e. absurd cc) ∙ c.loop-part.invariant.same;
}
