use Rattle.std.proofs.Common.{List, Bool, refl, subst}
use Rattle.synth_run.specs.Lines.{last_line}
use Rattle.synth_run.specs.Session.{Turn}
use Rattle.synth_run.specs.Taking.{Speaks, TakesLines}
use Rattle.synth_run.proofs.Turning.{finish_broken, finished, finished_early, last_broken}
use Rattle.synth_run.proofs.session.Session.finish.Goals as goal

pub returns-in-Ok-true-clause-ok : goal.returns-in-Ok-true-clause-ok
returns-in-Ok-true-clause-ok g c =
    finished_early c.args.self.speaker.desk.state c.args.self.speaker c.take_last.new.self.speaker c.args.self.reader c.take_last.new.self.reader
    (last_line c.args.self.line) (g.K.Sink.held c.args.sink.now) (g.K.Sink.held c.take_last.new.sink) c.args.meter.now c.take_last.new.meter refl
    (subst (λ (t : Bool). (turns : List Turn) × TakesLines c.args.self.reader (last_line c.args.self.line) turns c.take_last.new.self.reader
    × Speaks c.args.self.speaker c.take_last.new.self.speaker t turns (g.K.Sink.held c.args.sink.now) (g.K.Sink.held c.take_last.new.sink) c.args.meter.now c.take_last.new.meter)
    c.in-Ok-true.field-0-test c.in-Ok-true.ensures.ok)

pub returns-in-Err-clause-err : goal.returns-in-Err-clause-err
returns-in-Err-clause-err g c =
    last_broken c.args.self.speaker.desk.state c.in-Err.stop c.args.self.reader (last_line c.args.self.line) (g.K.Sink.held c.args.sink.now) (g.K.Sink.held c.take_last.new.sink)
    c.args.meter.now c.take_last.new.meter c.in-Err.ensures.err

pub returns-in-Ok-clause-ok : goal.returns-in-Ok-clause-ok
returns-in-Ok-clause-ok g c =
    finished c.args.self.speaker.desk.state c.args.self.speaker c.take_last.new.self.speaker c.answer_any.new.self c.args.self.reader c.take_last.new.self.reader
    (last_line c.args.self.line) c.finish.result (g.K.Sink.held c.args.sink.now) (g.K.Sink.held c.take_last.new.sink) (g.K.Sink.held c.answer_any.new.sink)
    c.args.meter.now c.take_last.new.meter c.answer_any.new.meter c.in-Ok.field-0 refl
    (subst (λ (t : Bool). (turns : List Turn) × TakesLines c.args.self.reader (last_line c.args.self.line) turns c.take_last.new.self.reader
    × Speaks c.args.self.speaker c.take_last.new.self.speaker t turns (g.K.Sink.held c.args.sink.now) (g.K.Sink.held c.take_last.new.sink) c.args.meter.now c.take_last.new.meter)
    c.in-Ok-false.field-0-test c.in-Ok-false.ensures.ok) c.finish.ensures.value c.in-Ok.ensures.ok

pub returns-clause-err : goal.returns-clause-err
returns-clause-err g c =
    finish_broken c.args.self.speaker c.take_last.new.self.speaker c.in-Err-answer_any.stop c.args.self.reader c.take_last.new.self.reader
    (last_line c.args.self.line) c.finish.result (g.K.Sink.held c.args.sink.now) (g.K.Sink.held c.take_last.new.sink) (g.K.Sink.held c.answer_any.new.sink)
    c.args.meter.now c.take_last.new.meter c.answer_any.new.meter
    (subst (λ (t : Bool). (turns : List Turn) × TakesLines c.args.self.reader (last_line c.args.self.line) turns c.take_last.new.self.reader
    × Speaks c.args.self.speaker c.take_last.new.self.speaker t turns (g.K.Sink.held c.args.sink.now) (g.K.Sink.held c.take_last.new.sink) c.args.meter.now c.take_last.new.meter)
    c.in-Ok-false.field-0-test c.in-Ok-false.ensures.ok) c.finish.ensures.value c.in-Err-answer_any.ensures.err
