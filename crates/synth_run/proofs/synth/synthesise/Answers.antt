use Rattle.synth_run.proofs.Reading.{either_kept, kept_begun, long_answered, long_begun, text_answered, text_begun, text_counts}
use Rattle.synth_run.proofs.Speaking.{keeps_same}
use Rattle.synth_run.proofs.synth.synthesise.Goals as goal

pub returns-in-Ok-clause-ok : goal.returns-in-Ok-clause-ok
returns-in-Ok-clause-ok g c =
    text_answered c.args.plan.script (g.S.Source.left c.read_input.new.source) (g.K.Sink.held c.args.sink.now) (g.K.Sink.held c.answer_text.new.sink) (g.S.Source.left c.args.source.now) c.in-Ok.text
    c.answer_text.result c.in-Ok.ensures.whole.0 c.in-Ok.ensures.whole.1 c.in-Ok.ensures.whole.2 c.answer_text.ensures.ok

pub returns-in-Ok-clause-begun : goal.returns-in-Ok-clause-begun
returns-in-Ok-clause-begun g c =
    text_begun c.args.plan.script (g.S.Source.left c.read_input.new.source) (g.K.Sink.held c.args.sink.now) (g.K.Sink.held c.answer_text.new.sink) (g.S.Source.left c.args.source.now) c.in-Ok.text
    c.answer_text.result c.in-Ok.ensures.whole.0 c.in-Ok.ensures.whole.1 c.in-Ok.ensures.whole.2
    c.answer_text.ensures.front c.answer_text.ensures.memory c.answer_text.ensures.source

pub returns-in-Err-TooLong-clause-ok : goal.returns-in-Err-TooLong-clause-ok
returns-in-Err-TooLong-clause-ok g c =
    long_answered c.args.plan.script (g.S.Source.left c.read_input.new.source) (g.K.Sink.held c.args.sink.now) (g.K.Sink.held c.refuse_long.new.sink) (g.S.Source.left c.args.source.now) c.refuse_long.result
    (c.read_input.ensures.long cc) c.refuse_long.ensures.ok

pub returns-in-Err-TooLong-clause-begun : goal.returns-in-Err-TooLong-clause-begun
returns-in-Err-TooLong-clause-begun g c =
    long_begun c.args.plan.script (g.S.Source.left c.read_input.new.source) (g.K.Sink.held c.args.sink.now) (g.K.Sink.held c.refuse_long.new.sink) (g.S.Source.left c.args.source.now) c.refuse_long.result
    (c.read_input.ensures.long cc) c.refuse_long.ensures.err

pub returns-in-Err-TooLong-clause-kept : goal.returns-in-Err-TooLong-clause-kept
returns-in-Err-TooLong-clause-kept g c = either_kept c.refuse_long.ensures.source c.refuse_long.ensures.memory

pub returns-in-Err-Failed-clause-begun : goal.returns-in-Err-Failed-clause-begun
returns-in-Err-Failed-clause-begun g c = kept_begun c.args.plan.script (g.S.Source.left c.args.source.now) (g.K.Sink.held c.args.sink.now) (g.K.Sink.held c.args.sink.now) (keeps_same (g.K.Sink.held c.args.sink.now))

pub returns-clause-begun : goal.returns-clause-begun
returns-clause-begun g c = kept_begun c.args.plan.script (g.S.Source.left c.args.source.now) (g.K.Sink.held c.args.sink.now) (g.K.Sink.held c.args.sink.now) (keeps_same (g.K.Sink.held c.args.sink.now))

pub returns-in-Ok-clause-builds : goal.returns-in-Ok-clause-builds
returns-in-Ok-clause-builds g c = λ other.
    text_counts c.args.plan.script (g.S.Source.left c.args.source.now) (g.S.Source.left c.read_input.new.source) c.in-Ok.text c.args.meter.now c.answer_text.new.meter
    c.in-Ok.ensures.whole.0 c.in-Ok.ensures.whole.1 (c.answer_text.ensures.builds other)
