use Rattle.std.proofs.Common.{[], ◌∷◌}
use Rattle.synth_run.proofs.Turning.{line_answered, line_forgotten, line_interrupted}
use Rattle.synth_run.proofs.session.Session.take_line.Goals as goal

pub returns-in-Ok-clause-ok : goal.returns-in-Ok-clause-ok
returns-in-Ok-clause-ok g c =
    line_answered c.args.self.now.reader c.args.line.now c.in-Ok.command c.feed.new.self c.args.self.now.speaker c.answer_any.new.self
    (g.K.Sink.held c.args.sink.now) (g.K.Sink.held c.answer_any.new.sink) c.args.meter.now c.answer_any.new.meter c.answer_any.result
    c.in-Ok.ensures.commands c.answer_any.ensures.ok

pub returns-in-Ok-clause-err : goal.returns-in-Ok-clause-err
returns-in-Ok-clause-err g c =
    line_interrupted c.args.self.now.reader c.args.line.now c.in-Ok.command c.feed.new.self c.args.self.now.speaker.desk.state
    (g.K.Sink.held c.args.sink.now) (g.K.Sink.held c.answer_any.new.sink) c.args.meter.now c.answer_any.new.meter c.answer_any.result
    c.in-Ok.ensures.commands c.answer_any.ensures.err

pub returns-in-Err-clause-err : goal.returns-in-Err-clause-err
returns-in-Err-clause-err g c =
    line_forgotten c.args.self.now.reader (c.args.line.now ∷ []) c.args.self.now.speaker.desk.state (g.K.Sink.held c.args.sink.now) c.args.meter.now c.args.meter.now
