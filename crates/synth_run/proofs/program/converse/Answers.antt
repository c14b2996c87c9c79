use Rattle.std.proofs.Common.{subst}
use Rattle.std.specs.Prelude.{IfErr, IfOk}
use Rattle.desk_core.specs.State.{State}
use Rattle.synth_run.specs.Taking.{Broken, Held}
use Rattle.synth_run.proofs.Ending.{answered, begun, begun_nothing, counts, prints, taken, through}
use Rattle.synth_run.proofs.program.converse.Goals as goal

pub returns-in_default-clause-begun : goal.returns-in_default-clause-begun
returns-in_default-clause-begun g c = begun_nothing c.args.plan.script (g.S.Source.left c.args.source.now) (g.K.Sink.held c.args.sink.now) c.requires.script

pub returns-in_default-piece_of-clause-begun : goal.returns-in_default-piece_of-clause-begun
returns-in_default-piece_of-clause-begun g c = begun_nothing c.args.plan.script (g.S.Source.left c.args.source.now) (g.K.Sink.held c.args.sink.now) c.requires.script

pub returns-clause-ok : goal.returns-clause-ok
returns-clause-ok g c =
    answered c.args.plan.script c.requires.script (g.S.Source.left c.args.source.now) (g.S.Source.left c.answer_all.new.source) (g.K.Sink.held c.args.sink.now) (g.K.Sink.held c.answer_all.new.sink) c.args.meter.now c.answer_all.new.meter c.answer_all.result
    (subst (λ (s : State). IfOk c.answer_all.result (λ refused. Held s refused (g.S.Source.left c.args.source.now) (g.S.Source.left c.answer_all.new.source) (g.K.Sink.held c.args.sink.now) (g.K.Sink.held c.answer_all.new.sink) c.args.meter.now c.answer_all.new.meter)) c.in-Ok.ensures.desk c.answer_all.ensures.ok)

pub returns-clause-through : goal.returns-clause-through
returns-clause-through g c =
    through c.args.plan.script c.requires.script (g.S.Source.left c.args.source.now) (g.S.Source.left c.answer_all.new.source) (g.K.Sink.held c.args.sink.now) (g.K.Sink.held c.answer_all.new.sink) c.args.meter.now c.answer_all.new.meter c.answer_all.result
    (subst (λ (s : State). IfOk c.answer_all.result (λ refused. Held s refused (g.S.Source.left c.args.source.now) (g.S.Source.left c.answer_all.new.source) (g.K.Sink.held c.args.sink.now) (g.K.Sink.held c.answer_all.new.sink) c.args.meter.now c.answer_all.new.meter)) c.in-Ok.ensures.desk c.answer_all.ensures.ok)

pub returns-clause-begun : goal.returns-clause-begun
returns-clause-begun g c =
    begun c.args.plan.script c.requires.script (g.S.Source.left c.args.source.now) (g.S.Source.left c.answer_all.new.source) (g.K.Sink.held c.args.sink.now) (g.K.Sink.held c.answer_all.new.sink) c.args.meter.now c.answer_all.new.meter c.answer_all.result
    (subst (λ (s : State). IfErr c.answer_all.result (λ stop. Broken s stop (g.S.Source.left c.args.source.now) (g.S.Source.left c.answer_all.new.source) (g.K.Sink.held c.args.sink.now) (g.K.Sink.held c.answer_all.new.sink) c.args.meter.now c.answer_all.new.meter)) c.in-Ok.ensures.desk c.answer_all.ensures.err)

pub returns-clause-answered : goal.returns-clause-answered
returns-clause-answered g c =
    taken c.args.plan.script c.requires.script (g.S.Source.left c.args.source.now) (g.S.Source.left c.answer_all.new.source) (g.K.Sink.held c.args.sink.now) (g.K.Sink.held c.answer_all.new.sink) c.args.meter.now c.answer_all.new.meter c.answer_all.result
    (subst (λ (s : State). IfErr c.answer_all.result (λ stop. Broken s stop (g.S.Source.left c.args.source.now) (g.S.Source.left c.answer_all.new.source) (g.K.Sink.held c.args.sink.now) (g.K.Sink.held c.answer_all.new.sink) c.args.meter.now c.answer_all.new.meter)) c.in-Ok.ensures.desk c.answer_all.ensures.err)

pub returns-clause-prints : goal.returns-clause-prints
returns-clause-prints g c =
    prints c.args.plan.script c.requires.script (g.S.Source.left c.args.source.now) (g.S.Source.left c.answer_all.new.source) (g.K.Sink.held c.args.sink.now) (g.K.Sink.held c.answer_all.new.sink) c.args.meter.now c.answer_all.new.meter c.answer_all.result
    (subst (λ (s : State). IfOk c.answer_all.result (λ refused. Held s refused (g.S.Source.left c.args.source.now) (g.S.Source.left c.answer_all.new.source) (g.K.Sink.held c.args.sink.now) (g.K.Sink.held c.answer_all.new.sink) c.args.meter.now c.answer_all.new.meter)) c.in-Ok.ensures.desk c.answer_all.ensures.ok)

pub returns-clause-counts : goal.returns-clause-counts
returns-clause-counts g c =
    counts c.args.plan.script c.requires.script (g.S.Source.left c.args.source.now) (g.S.Source.left c.answer_all.new.source) (g.K.Sink.held c.args.sink.now) (g.K.Sink.held c.answer_all.new.sink) c.args.meter.now c.answer_all.new.meter c.answer_all.result
    (subst (λ (s : State). IfOk c.answer_all.result (λ refused. Held s refused (g.S.Source.left c.args.source.now) (g.S.Source.left c.answer_all.new.source) (g.K.Sink.held c.args.sink.now) (g.K.Sink.held c.answer_all.new.sink) c.args.meter.now c.answer_all.new.meter)) c.in-Ok.ensures.desk c.answer_all.ensures.ok)
    (subst (λ (s : State). IfErr c.answer_all.result (λ stop. Broken s stop (g.S.Source.left c.args.source.now) (g.S.Source.left c.answer_all.new.source) (g.K.Sink.held c.args.sink.now) (g.K.Sink.held c.answer_all.new.sink) c.args.meter.now c.answer_all.new.meter)) c.in-Ok.ensures.desk c.answer_all.ensures.err)
