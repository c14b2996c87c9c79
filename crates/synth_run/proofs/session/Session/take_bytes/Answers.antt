use Rattle.std.proofs.Common.{List, [], ◌∷◌, Bool, refl, subst, ◌∙◌}
use Rattle.synth_run.specs.Lines.{read_lines}
use Rattle.synth_run.specs.Session.{Turn}
use Rattle.synth_run.specs.Taking.{Speaks, TakesLines}
use Rattle.synth_run.specs.declared.session.Stop.TheVariants as halts
use Rattle.synth_run.proofs.Going.{goes_broken, goes_first, goes_forgotten, goes_next, goes_to_quit}
use Rattle.synth_run.proofs.Turning.{line_forgotten}
use Rattle.synth_run.proofs.session.Session.take_bytes.Goals as goal

pub loop-front-init : goal.loop-front-init
loop-front-init g c = record {
  goes = goes_first c.args.self.now c.args.bytes.now (g.K.Sink.held c.args.sink.now) c.args.meter.now c.requires.unended;
  same = refl;
}

pub returns-in_default-hold-clause-err : goal.returns-in_default-hold-clause-err
returns-in_default-hold-clause-err g c =
    goes_forgotten c.args.self.now c.loop-front.self c.args.bytes.now c.loop-front.left.now (g.K.Sink.held c.args.sink.now) (g.K.Sink.held c.loop-front.sink)
    c.args.meter.now c.loop-front.meter halts.Memory c.loop-front.invariant.goes
    (line_forgotten c.loop-front.self.reader [] c.loop-front.self.speaker.desk.state (g.K.Sink.held c.loop-front.sink) c.loop-front.meter c.loop-front.meter)

pub returns-in-Ok-true-clause-ends : goal.returns-in-Ok-true-clause-ends
returns-in-Ok-true-clause-ends g c = λ _.
    goes_to_quit c.args.self.now c.loop-front.self c.hold.new.self c.end_line.new.self c.args.bytes.now c.loop-front.left.now c.in-Some.front.now c.in-Some.behind.now
    (g.K.Sink.held c.args.sink.now) (g.K.Sink.held c.loop-front.sink) (g.K.Sink.held c.end_line.new.sink) c.args.meter.now c.loop-front.meter c.end_line.new.meter
    c.loop-front.invariant.goes c.in-Some.ensures.parts.0 c.in-Some.ensures.parts.1 c.in-Ok.ensures.ok
    (subst (λ (t : Bool). (turns : List Turn) × TakesLines c.hold.new.self.reader (read_lines (c.hold.new.self.line ∷ [])) turns c.end_line.new.self.reader
    × Speaks c.hold.new.self.speaker c.end_line.new.self.speaker t turns (g.K.Sink.held c.loop-front.sink) (g.K.Sink.held c.end_line.new.sink) c.loop-front.meter c.end_line.new.meter)
    c.in-Ok-true.field-0-test c.in-Ok-true.ensures.ok)

pub loop-front-preserved : goal.loop-front-preserved
loop-front-preserved g c = record {
  goes =
      goes_next c.args.self.now c.loop-front.self c.hold.new.self c.end_line.new.self c.args.bytes.now c.loop-front.left.now c.in-Some.front.now c.in-Some.behind.now
      (g.K.Sink.held c.args.sink.now) (g.K.Sink.held c.loop-front.sink) (g.K.Sink.held c.end_line.new.sink) c.args.meter.now c.loop-front.meter c.end_line.new.meter
      c.loop-front.invariant.goes c.in-Some.ensures.parts.0 c.in-Some.ensures.parts.1 c.in-Ok.ensures.ok
      c.in-Ok-false.ensures.line (subst (λ (t : Bool). (turns : List Turn) × TakesLines c.hold.new.self.reader (read_lines (c.hold.new.self.line ∷ [])) turns c.end_line.new.self.reader
      × Speaks c.hold.new.self.speaker c.end_line.new.self.speaker t turns (g.K.Sink.held c.loop-front.sink) (g.K.Sink.held c.end_line.new.sink) c.loop-front.meter c.end_line.new.meter)
      c.in-Ok-false.field-0-test c.in-Ok-false.ensures.ok);
  same = c.in-Ok-false.ensures.same (λ e. absurd cc) ∙ c.loop-front.invariant.same;
}

pub returns-in-Err-clause-err : goal.returns-in-Err-clause-err
returns-in-Err-clause-err g c =
    goes_broken c.args.self.now c.loop-front.self c.hold.new.self c.end_line.new.self c.args.bytes.now c.loop-front.left.now c.in-Some.front.now c.in-Some.behind.now
    (g.K.Sink.held c.args.sink.now) (g.K.Sink.held c.loop-front.sink) (g.K.Sink.held c.end_line.new.sink) c.args.meter.now c.loop-front.meter c.end_line.new.meter
    c.loop-front.invariant.goes c.in-Some.ensures.parts.0 c.in-Some.ensures.parts.1 c.in-Ok.ensures.ok
    c.in-Err.stop c.in-Err.ensures.err

pub returns-in-Err-hold-clause-err : goal.returns-in-Err-hold-clause-err
returns-in-Err-hold-clause-err g c =
    goes_forgotten c.args.self.now c.loop-front.self c.args.bytes.now c.loop-front.left.now (g.K.Sink.held c.args.sink.now) (g.K.Sink.held c.loop-front.sink)
    c.args.meter.now c.loop-front.meter halts.Memory c.loop-front.invariant.goes
    (line_forgotten c.loop-front.self.reader [] c.loop-front.self.speaker.desk.state (g.K.Sink.held c.loop-front.sink) c.loop-front.meter c.loop-front.meter)
