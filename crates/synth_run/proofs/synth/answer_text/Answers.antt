use Rattle.std.proofs.Common.{true, false, refl, ap, subst, ◌∙◌}
use Rattle.std.specs.Io.KnownBytes.{Appends}
use Rattle.desk_read.specs.declared.command.Command.TheVariants.{Load}
use Rattle.desk_core.specs.State.{State}
use Rattle.desk_core.specs.Step.{IsStep}
use Rattle.synth_run.specs.Said.{said_of}
use Rattle.synth_run.specs.Synth.{after_line}
use Rattle.synth_run.proofs.Synthesising.{built_loaded, built_none, loaded, over, refined, refused, told, told_front, told_whole, written_said}
use Rattle.synth_run.proofs.synth.answer_text.Goals as goal

pub returns-then-loaded-clause-ok : goal.returns-then-loaded-clause-ok
returns-then-loaded-clause-ok g c =
    told c.args.plan.script c.args.text (said_of c.in_ok-loaded.loaded) c.as_slice.result.now (g.K.Sink.held c.args.sink.now) (g.K.Sink.held c.tell.new.sink)
    (refused c.args.plan.script c.args.text c.in_ok-loaded.loaded c.reply_to.new.desk.state
    (subst (λ (s : State). IsStep (Load c.args.text) s c.in_ok-loaded.loaded c.reply_to.new.desk.state) c.in-Ok.ensures.value c.in_ok-loaded.ensures.step) c.if-loaded.true) c.as_slice.ensures.value
    true c.tell.result c.if-loaded.true c.tell.ensures.ok

pub returns-then-loaded-clause-front : goal.returns-then-loaded-clause-front
returns-then-loaded-clause-front g c = λ _.
    told_front c.args.plan.script c.args.text (said_of c.in_ok-loaded.loaded) c.as_slice.result.now (g.K.Sink.held c.args.sink.now) (g.K.Sink.held c.tell.new.sink)
    (refused c.args.plan.script c.args.text c.in_ok-loaded.loaded c.reply_to.new.desk.state
    (subst (λ (s : State). IsStep (Load c.args.text) s c.in_ok-loaded.loaded c.reply_to.new.desk.state) c.in-Ok.ensures.value c.in_ok-loaded.ensures.step) c.if-loaded.true) c.as_slice.ensures.value
    c.tell.ensures.front

pub returns-then-loaded-clause-builds : goal.returns-then-loaded-clause-builds
returns-then-loaded-clause-builds g c = λ _. built_none c.args.plan.script c.args.text c.args.meter.now c.reply_to.new.meter c.in_ok-loaded.ensures.builds

pub returns-then-printed-clause-ok : goal.returns-then-printed-clause-ok
returns-then-printed-clause-ok g c =
    told c.args.plan.script c.args.text (said_of c.in_ok-printed.printed) c.as_slice-then-printed.result.now (g.K.Sink.held c.args.sink.now) (g.K.Sink.held c.tell-then-printed.new.sink)
    (over c.args.plan.script c.args.text c.reply_to.new.desk.state c.reply_to-2.new.desk.state c.in_ok-printed.printed
    (loaded c.args.plan.script c.args.text c.in_ok-loaded.loaded c.reply_to.new.desk.state
    (subst (λ (s : State). IsStep (Load c.args.text) s c.in_ok-loaded.loaded c.reply_to.new.desk.state) c.in-Ok.ensures.value c.in_ok-loaded.ensures.step) c.if-loaded.false) c.in_ok-printed.ensures.step c.if-printed.true) c.as_slice-then-printed.ensures.value
    true c.tell-then-printed.result c.if-printed.true c.tell-then-printed.ensures.ok

pub returns-then-printed-clause-front : goal.returns-then-printed-clause-front
returns-then-printed-clause-front g c = λ _.
    told_front c.args.plan.script c.args.text (said_of c.in_ok-printed.printed) c.as_slice-then-printed.result.now (g.K.Sink.held c.args.sink.now) (g.K.Sink.held c.tell-then-printed.new.sink)
    (over c.args.plan.script c.args.text c.reply_to.new.desk.state c.reply_to-2.new.desk.state c.in_ok-printed.printed
    (loaded c.args.plan.script c.args.text c.in_ok-loaded.loaded c.reply_to.new.desk.state
    (subst (λ (s : State). IsStep (Load c.args.text) s c.in_ok-loaded.loaded c.reply_to.new.desk.state) c.in-Ok.ensures.value c.in_ok-loaded.ensures.step) c.if-loaded.false) c.in_ok-printed.ensures.step c.if-printed.true) c.as_slice-then-printed.ensures.value
    c.tell-then-printed.ensures.front

pub returns-then-printed-clause-builds : goal.returns-then-printed-clause-builds
returns-then-printed-clause-builds g c = λ _.
    built_loaded c.args.plan.script c.args.text c.reply_to.new.desk.state c.args.meter.now c.reply_to.new.meter c.reply_to-2.new.meter
    (loaded c.args.plan.script c.args.text c.in_ok-loaded.loaded c.reply_to.new.desk.state
    (subst (λ (s : State). IsStep (Load c.args.text) s c.in_ok-loaded.loaded c.reply_to.new.desk.state) c.in-Ok.ensures.value c.in_ok-loaded.ensures.step) c.if-loaded.false)
    c.in_ok-loaded.ensures.builds c.in_ok-printed.ensures.builds

pub returns-clause-ok : goal.returns-clause-ok
returns-clause-ok g c =
    told c.args.plan.script c.args.text (record { text = after_line c.in_ok-printed.printed.text; error = false }) c.after_line.result.now (g.K.Sink.held c.args.sink.now) (g.K.Sink.held c.tell-2.new.sink)
    (written_said c.args.plan.script c.args.text c.reply_to.new.desk.state c.reply_to-2.new.desk.state c.in_ok-printed.printed
    (loaded c.args.plan.script c.args.text c.in_ok-loaded.loaded c.reply_to.new.desk.state
    (subst (λ (s : State). IsStep (Load c.args.text) s c.in_ok-loaded.loaded c.reply_to.new.desk.state) c.in-Ok.ensures.value c.in_ok-loaded.ensures.step) c.if-loaded.false) c.in_ok-printed.ensures.step c.if-printed.false) (c.after_line.ensures.value ∙ ap after_line c.as_slice-2.ensures.value)
    false c.tell-2.result refl c.tell-2.ensures.ok

pub returns-clause-front : goal.returns-clause-front
returns-clause-front g c = λ _.
    told_front c.args.plan.script c.args.text (record { text = after_line c.in_ok-printed.printed.text; error = false }) c.after_line.result.now (g.K.Sink.held c.args.sink.now) (g.K.Sink.held c.tell-2.new.sink)
    (written_said c.args.plan.script c.args.text c.reply_to.new.desk.state c.reply_to-2.new.desk.state c.in_ok-printed.printed
    (loaded c.args.plan.script c.args.text c.in_ok-loaded.loaded c.reply_to.new.desk.state
    (subst (λ (s : State). IsStep (Load c.args.text) s c.in_ok-loaded.loaded c.reply_to.new.desk.state) c.in-Ok.ensures.value c.in_ok-loaded.ensures.step) c.if-loaded.false) c.in_ok-printed.ensures.step c.if-printed.false) (c.after_line.ensures.value ∙ ap after_line c.as_slice-2.ensures.value)
    c.tell-2.ensures.front

pub returns-clause-refines : goal.returns-clause-refines
returns-clause-refines g c = λ is.
    refined c.args.plan.script c.args.text c.reply_to.new.desk.state c.reply_to-2.new.desk.state c.in_ok-printed.printed (g.K.Sink.held c.args.sink.now) (g.K.Sink.held c.tell-2.new.sink)
    c.requires.script
    (loaded c.args.plan.script c.args.text c.in_ok-loaded.loaded c.reply_to.new.desk.state
    (subst (λ (s : State). IsStep (Load c.args.text) s c.in_ok-loaded.loaded c.reply_to.new.desk.state) c.in-Ok.ensures.value c.in_ok-loaded.ensures.step) c.if-loaded.false) c.in_ok-printed.ensures.step c.if-printed.false
    (subst (Appends (g.K.Sink.held c.args.sink.now) (g.K.Sink.held c.tell-2.new.sink)) (c.after_line.ensures.value ∙ ap after_line c.as_slice-2.ensures.value)
    (told_whole c.after_line.result.now (g.K.Sink.held c.args.sink.now) (g.K.Sink.held c.tell-2.new.sink) false false c.tell-2.result is c.tell-2.ensures.ok))

pub returns-clause-builds : goal.returns-clause-builds
returns-clause-builds g c = λ _.
    built_loaded c.args.plan.script c.args.text c.reply_to.new.desk.state c.args.meter.now c.reply_to.new.meter c.reply_to-2.new.meter
    (loaded c.args.plan.script c.args.text c.in_ok-loaded.loaded c.reply_to.new.desk.state
    (subst (λ (s : State). IsStep (Load c.args.text) s c.in_ok-loaded.loaded c.reply_to.new.desk.state) c.in-Ok.ensures.value c.in_ok-loaded.ensures.step) c.if-loaded.false)
    c.in_ok-loaded.ensures.builds c.in_ok-printed.ensures.builds
