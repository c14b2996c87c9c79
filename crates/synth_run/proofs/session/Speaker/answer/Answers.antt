use Rattle.std.proofs.Common.{◌≡◌, ℕ, List, [], ◌∷◌, take, refl, subst}
use Rattle.std.specs.Prelude.{◌||◌}
use Rattle.std.specs.Io.KnownBytes.{Appends}
use Rattle.synth_run.proofs.Turning.{answered, forgotten, interrupted}
use Rattle.synth_run.proofs.session.Speaker.answer.Goals.{then-self, else-self}
use Rattle.synth_run.proofs.session.Speaker.answer.Goals as goal

pub returns-in_default-clause-err : goal.returns-in_default-clause-err
returns-in_default-clause-err g c =
    forgotten (c.args.command.now ∷ []) c.args.self.now.desk.state (g.K.Sink.held c.args.sink.now) c.args.meter.now c.command.new.meter

pub returns-in_default-write_reply-clause-err : goal.returns-in_default-write_reply-clause-err
returns-in_default-write_reply-clause-err g c =
    interrupted c.args.self.now.desk.state c.command.new.self.state c.args.command.now c.in-Ok.reply (g.K.Sink.held c.args.sink.now) (g.K.Sink.held c.write_reply.new.sink)
    c.args.meter.now c.command.new.meter c.in-Ok.ensures.step
    (subst (λ (t : List ℕ). (size : ℕ) × Appends (g.K.Sink.held c.args.sink.now) (g.K.Sink.held c.write_reply.new.sink) (take size t)) c.as_slice.ensures.value c.write_reply.ensures.front)
    c.in-Ok.ensures.builds

pub returns-clause-ok : goal.returns-clause-ok
returns-clause-ok g c =
    let refused : c.if-self.self ≡ (c.args.self.now.refused || c.in-Ok.reply.error) =
    elim c.if-self.branch [ then-self w ↦ rw (w.self-is, w.if-self.true) refl | else-self w ↦ rw (w.self-is, w.if-self.false) refl ] in
    answered c.args.self.now (record { desk = c.command.new.self; refused = c.if-self.self }) c.args.command.now c.in-Ok.reply c.is_quit.result
    (g.K.Sink.held c.args.sink.now) (g.K.Sink.held c.write_reply.new.sink) c.args.meter.now c.command.new.meter c.in-Ok.ensures.step refused
    (subst (Appends (g.K.Sink.held c.args.sink.now) (g.K.Sink.held c.write_reply.new.sink)) c.as_slice.ensures.value c.in-Ok-write_reply.ensures.whole)
    c.in-Ok.ensures.builds c.is_quit.ensures.value
