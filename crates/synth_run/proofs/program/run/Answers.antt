use Rattle.std.proofs.Common.{◌≡◌, ℕ, true, false, inr, refl, sym, subst}
use Rattle.synth_io.specs.Counts.{HasRisen}
use Rattle.std.specs.Prelude.{IfSome, map, string_bytes}
use Rattle.synth_run.specs.declared.words.Mode.{Mode}
use Rattle.synth_run.specs.declared.words.Mode.TheVariants.{Synth, Session, Generate, Desks}
use Rattle.synth_run.specs.declared.words.Plan.{Plan}
use Rattle.synth_run.specs.Builds.{HasCounted}
use Rattle.synth_run.specs.Replies.{HasAnswered, HasBegun, HasKept, HasRefined, IsCompleted, IsReadThrough, OfInput}
use Rattle.synth_run.specs.Words.{plan_of}
use Rattle.synth_run.proofs.Ending.{begins, completed, counted_desks, counted_turns, on_some, done, planned, refined, refined_desks, refined_text, refused, was_memory, was_source}
use Rattle.synth_run.proofs.Generating as generating
use Rattle.synth_run.proofs.Planning.{each_plan, never_made, not_desks, not_session, not_synth, nothing_begun, nothing_counted, nothing_refined, nothing_written}
use Rattle.synth_run.proofs.program.run.Goals as goal

pub returns-in-Err-Memory-clause-begun : goal.returns-in-Err-Memory-clause-begun
returns-in-Err-Memory-clause-begun g c = nothing_begun (map string_bytes c.args.words.now) (g.S.Source.left c.args.source.now) (g.K.Sink.held c.args.sink.now)

pub returns-in-Err-Memory-clause-refines : goal.returns-in-Err-Memory-clause-refines
returns-in-Err-Memory-clause-refines g c = nothing_refined (map string_bytes c.args.words.now) (g.S.Source.left c.args.source.now) (g.K.Sink.held c.args.sink.now)

pub returns-in-Err-Memory-clause-memory : goal.returns-in-Err-Memory-clause-memory
returns-in-Err-Memory-clause-memory g c = λ _. nothing_written (map string_bytes c.args.words.now) (g.K.Sink.held c.args.sink.now)

pub returns-in-Err-Memory-clause-builds : goal.returns-in-Err-Memory-clause-builds
returns-in-Err-Memory-clause-builds g c = nothing_counted (map string_bytes c.args.words.now) (g.S.Source.left c.args.source.now) c.args.meter.now

pub returns-in-Err-Memory-clause-complete : goal.returns-in-Err-Memory-clause-complete
returns-in-Err-Memory-clause-complete g c =
    on_some (plan_of (map string_bytes c.args.words.now))
    ((HasRisen (g.S.Source.faults c.args.source.now) (g.S.Source.faults c.args.source.now) → ⊥) → (HasRisen (g.K.Sink.faults c.args.sink.now) (g.K.Sink.faults c.args.sink.now) → ⊥) → Unit {0})
    (λ source sink. tt)

pub returns-in-Synth-clause-done : goal.returns-in-Synth-clause-done
returns-in-Synth-clause-done g c = λ e.
    planned (plan_of (map string_bytes c.args.words.now)) c.in-Ok.plan (λ (plan : Plan). HasAnswered plan.mode plan.script false (g.S.Source.left c.args.source.now) (g.K.Sink.held c.args.sink.now) (g.K.Sink.held c.synthesise.new.sink) × IsReadThrough plan.mode (g.S.Source.left c.args.source.now) (g.S.Source.left c.synthesise.new.source)) c.in-Ok.ensures.plan
    (subst (λ (m : Mode). HasAnswered m c.in-Ok.plan.script false (g.S.Source.left c.args.source.now) (g.K.Sink.held c.args.sink.now) (g.K.Sink.held c.synthesise.new.sink) × IsReadThrough m (g.S.Source.left c.args.source.now) (g.S.Source.left c.synthesise.new.source)) (sym c.in-Synth.is)
    (done Synth c.in-Ok.plan.script (g.S.Source.left c.args.source.now) (g.S.Source.left c.synthesise.new.source) (g.K.Sink.held c.args.sink.now) (g.K.Sink.held c.synthesise.new.sink) c.synthesise.result c.status_of.result c.status_of.ensures.value c.synthesise.ensures.ok c.synthesise.ensures.through e))

pub returns-in-Synth-clause-refused : goal.returns-in-Synth-clause-refused
returns-in-Synth-clause-refused g c = λ e.
    planned (plan_of (map string_bytes c.args.words.now)) c.in-Ok.plan (λ (plan : Plan). HasAnswered plan.mode plan.script true (g.S.Source.left c.args.source.now) (g.K.Sink.held c.args.sink.now) (g.K.Sink.held c.synthesise.new.sink) × IsReadThrough plan.mode (g.S.Source.left c.args.source.now) (g.S.Source.left c.synthesise.new.source)) c.in-Ok.ensures.plan
    (subst (λ (m : Mode). HasAnswered m c.in-Ok.plan.script true (g.S.Source.left c.args.source.now) (g.K.Sink.held c.args.sink.now) (g.K.Sink.held c.synthesise.new.sink) × IsReadThrough m (g.S.Source.left c.args.source.now) (g.S.Source.left c.synthesise.new.source)) (sym c.in-Synth.is)
    (refused Synth c.in-Ok.plan.script (g.S.Source.left c.args.source.now) (g.S.Source.left c.synthesise.new.source) (g.K.Sink.held c.args.sink.now) (g.K.Sink.held c.synthesise.new.sink) c.synthesise.result c.status_of.result c.status_of.ensures.value c.synthesise.ensures.ok c.synthesise.ensures.through e))

pub returns-in-Synth-clause-begun : goal.returns-in-Synth-clause-begun
returns-in-Synth-clause-begun g c =
    planned (plan_of (map string_bytes c.args.words.now)) c.in-Ok.plan (λ (plan : Plan). HasBegun plan.mode plan.script (g.S.Source.left c.args.source.now) (g.K.Sink.held c.args.sink.now) (g.K.Sink.held c.synthesise.new.sink)) c.in-Ok.ensures.plan
    (subst (λ (m : Mode). HasBegun m c.in-Ok.plan.script (g.S.Source.left c.args.source.now) (g.K.Sink.held c.args.sink.now) (g.K.Sink.held c.synthesise.new.sink)) (sym c.in-Synth.is)
    (begins Synth c.in-Ok.plan.script (g.S.Source.left c.args.source.now) (g.K.Sink.held c.args.sink.now) (g.K.Sink.held c.synthesise.new.sink) c.synthesise.result c.synthesise.ensures.ok c.synthesise.ensures.begun))

pub returns-in-Synth-clause-memory : goal.returns-in-Synth-clause-memory
returns-in-Synth-clause-memory g c = λ e.
    planned (plan_of (map string_bytes c.args.words.now)) c.in-Ok.plan (λ (plan : Plan). HasKept plan.mode (g.K.Sink.held c.args.sink.now) (g.K.Sink.held c.synthesise.new.sink)) c.in-Ok.ensures.plan
    (subst (λ (m : Mode). HasKept m (g.K.Sink.held c.args.sink.now) (g.K.Sink.held c.synthesise.new.sink)) (sym c.in-Synth.is)
    (c.synthesise.ensures.kept (inr (was_memory c.synthesise.result c.status_of.result c.status_of.ensures.value e))))

pub returns-in-Synth-clause-refines : goal.returns-in-Synth-clause-refines
returns-in-Synth-clause-refines g c =
    planned (plan_of (map string_bytes c.args.words.now)) c.in-Ok.plan (λ (plan : Plan). OfInput plan.mode (g.S.Source.left c.args.source.now) (λ input. HasRefined plan.mode c.status_of.result plan.script input (g.K.Sink.held c.args.sink.now) (g.K.Sink.held c.synthesise.new.sink))) c.in-Ok.ensures.plan
    (subst (λ (m : Mode). OfInput m (g.S.Source.left c.args.source.now) (λ input. HasRefined m c.status_of.result c.in-Ok.plan.script input (g.K.Sink.held c.args.sink.now) (g.K.Sink.held c.synthesise.new.sink))) (sym c.in-Synth.is)
    (refined_text c.in-Ok.plan.script (g.S.Source.left c.args.source.now) (g.K.Sink.held c.args.sink.now) (g.K.Sink.held c.synthesise.new.sink) c.synthesise.result c.status_of.result c.status_of.ensures.value c.synthesise.ensures.refines))

pub returns-in-Session-clause-done : goal.returns-in-Session-clause-done
returns-in-Session-clause-done g c = λ e.
    planned (plan_of (map string_bytes c.args.words.now)) c.in-Ok.plan (λ (plan : Plan). HasAnswered plan.mode plan.script false (g.S.Source.left c.args.source.now) (g.K.Sink.held c.args.sink.now) (g.K.Sink.held c.converse.new.sink) × IsReadThrough plan.mode (g.S.Source.left c.args.source.now) (g.S.Source.left c.converse.new.source)) c.in-Ok.ensures.plan
    (subst (λ (m : Mode). HasAnswered m c.in-Ok.plan.script false (g.S.Source.left c.args.source.now) (g.K.Sink.held c.args.sink.now) (g.K.Sink.held c.converse.new.sink) × IsReadThrough m (g.S.Source.left c.args.source.now) (g.S.Source.left c.converse.new.source)) (sym c.in-Session.is)
    (done Session c.in-Ok.plan.script (g.S.Source.left c.args.source.now) (g.S.Source.left c.converse.new.source) (g.K.Sink.held c.args.sink.now) (g.K.Sink.held c.converse.new.sink) c.converse.result c.status_of-in-Session.result c.status_of-in-Session.ensures.value c.converse.ensures.ok c.converse.ensures.through e))

pub returns-in-Session-clause-refused : goal.returns-in-Session-clause-refused
returns-in-Session-clause-refused g c = λ e.
    planned (plan_of (map string_bytes c.args.words.now)) c.in-Ok.plan (λ (plan : Plan). HasAnswered plan.mode plan.script true (g.S.Source.left c.args.source.now) (g.K.Sink.held c.args.sink.now) (g.K.Sink.held c.converse.new.sink) × IsReadThrough plan.mode (g.S.Source.left c.args.source.now) (g.S.Source.left c.converse.new.source)) c.in-Ok.ensures.plan
    (subst (λ (m : Mode). HasAnswered m c.in-Ok.plan.script true (g.S.Source.left c.args.source.now) (g.K.Sink.held c.args.sink.now) (g.K.Sink.held c.converse.new.sink) × IsReadThrough m (g.S.Source.left c.args.source.now) (g.S.Source.left c.converse.new.source)) (sym c.in-Session.is)
    (refused Session c.in-Ok.plan.script (g.S.Source.left c.args.source.now) (g.S.Source.left c.converse.new.source) (g.K.Sink.held c.args.sink.now) (g.K.Sink.held c.converse.new.sink) c.converse.result c.status_of-in-Session.result c.status_of-in-Session.ensures.value c.converse.ensures.ok c.converse.ensures.through e))

pub returns-in-Session-clause-begun : goal.returns-in-Session-clause-begun
returns-in-Session-clause-begun g c =
    planned (plan_of (map string_bytes c.args.words.now)) c.in-Ok.plan (λ (plan : Plan). HasBegun plan.mode plan.script (g.S.Source.left c.args.source.now) (g.K.Sink.held c.args.sink.now) (g.K.Sink.held c.converse.new.sink)) c.in-Ok.ensures.plan
    (subst (λ (m : Mode). HasBegun m c.in-Ok.plan.script (g.S.Source.left c.args.source.now) (g.K.Sink.held c.args.sink.now) (g.K.Sink.held c.converse.new.sink)) (sym c.in-Session.is)
    (begins Session c.in-Ok.plan.script (g.S.Source.left c.args.source.now) (g.K.Sink.held c.args.sink.now) (g.K.Sink.held c.converse.new.sink) c.converse.result c.converse.ensures.ok c.converse.ensures.begun))

pub returns-in-Session-clause-memory : goal.returns-in-Session-clause-memory
returns-in-Session-clause-memory g c = λ e.
    planned (plan_of (map string_bytes c.args.words.now)) c.in-Ok.plan (λ (plan : Plan). HasKept plan.mode (g.K.Sink.held c.args.sink.now) (g.K.Sink.held c.converse.new.sink)) c.in-Ok.ensures.plan
    (subst (λ (m : Mode). HasKept m (g.K.Sink.held c.args.sink.now) (g.K.Sink.held c.converse.new.sink)) (sym c.in-Session.is)
    (tt))

pub returns-in-Session-clause-refines : goal.returns-in-Session-clause-refines
returns-in-Session-clause-refines g c =
    planned (plan_of (map string_bytes c.args.words.now)) c.in-Ok.plan (λ (plan : Plan). OfInput plan.mode (g.S.Source.left c.args.source.now) (λ input. HasRefined plan.mode c.status_of-in-Session.result plan.script input (g.K.Sink.held c.args.sink.now) (g.K.Sink.held c.converse.new.sink))) c.in-Ok.ensures.plan
    (subst (λ (m : Mode). OfInput m (g.S.Source.left c.args.source.now) (λ input. HasRefined m c.status_of-in-Session.result c.in-Ok.plan.script input (g.K.Sink.held c.args.sink.now) (g.K.Sink.held c.converse.new.sink))) (sym c.in-Session.is)
    (refined c.in-Ok.plan.script (g.S.Source.left c.args.source.now) (g.K.Sink.held c.args.sink.now) (g.K.Sink.held c.converse.new.sink) c.converse.result c.status_of-in-Session.result c.status_of-in-Session.ensures.value c.converse.ensures.prints))

pub returns-in-Session-clause-builds : goal.returns-in-Session-clause-builds
returns-in-Session-clause-builds g c =
    planned (plan_of (map string_bytes c.args.words.now)) c.in-Ok.plan (λ (plan : Plan). HasCounted plan.mode c.status_of-in-Session.result plan.script (g.S.Source.left c.args.source.now) (g.S.Source.left c.converse.new.source) c.args.meter.now c.converse.new.meter) c.in-Ok.ensures.plan
    (subst (λ (m : Mode). HasCounted m c.status_of-in-Session.result c.in-Ok.plan.script (g.S.Source.left c.args.source.now) (g.S.Source.left c.converse.new.source) c.args.meter.now c.converse.new.meter) (sym c.in-Session.is)
    (counted_turns c.in-Ok.plan.script (g.S.Source.left c.args.source.now) (g.S.Source.left c.converse.new.source) c.args.meter.now c.converse.new.meter c.converse.result c.status_of-in-Session.result c.status_of-in-Session.ensures.value c.converse.ensures.counts))

pub returns-in-Desks-clause-done : goal.returns-in-Desks-clause-done
returns-in-Desks-clause-done g c = λ e.
    planned (plan_of (map string_bytes c.args.words.now)) c.in-Ok.plan (λ (plan : Plan). HasAnswered plan.mode plan.script false (g.S.Source.left c.args.source.now) (g.K.Sink.held c.args.sink.now) (g.K.Sink.held c.serve_desks.new.sink) × IsReadThrough plan.mode (g.S.Source.left c.args.source.now) (g.S.Source.left c.serve_desks.new.source)) c.in-Ok.ensures.plan
    (subst (λ (m : Mode). HasAnswered m c.in-Ok.plan.script false (g.S.Source.left c.args.source.now) (g.K.Sink.held c.args.sink.now) (g.K.Sink.held c.serve_desks.new.sink) × IsReadThrough m (g.S.Source.left c.args.source.now) (g.S.Source.left c.serve_desks.new.source)) (sym c.in-Desks.is)
    (done (Desks c.in-Desks.count) c.in-Ok.plan.script (g.S.Source.left c.args.source.now) (g.S.Source.left c.serve_desks.new.source) (g.K.Sink.held c.args.sink.now) (g.K.Sink.held c.serve_desks.new.sink) c.serve_desks.result c.status_of-in-Desks.result c.status_of-in-Desks.ensures.value c.serve_desks.ensures.ok c.serve_desks.ensures.through e))

pub returns-in-Desks-clause-refused : goal.returns-in-Desks-clause-refused
returns-in-Desks-clause-refused g c = λ e.
    planned (plan_of (map string_bytes c.args.words.now)) c.in-Ok.plan (λ (plan : Plan). HasAnswered plan.mode plan.script true (g.S.Source.left c.args.source.now) (g.K.Sink.held c.args.sink.now) (g.K.Sink.held c.serve_desks.new.sink) × IsReadThrough plan.mode (g.S.Source.left c.args.source.now) (g.S.Source.left c.serve_desks.new.source)) c.in-Ok.ensures.plan
    (subst (λ (m : Mode). HasAnswered m c.in-Ok.plan.script true (g.S.Source.left c.args.source.now) (g.K.Sink.held c.args.sink.now) (g.K.Sink.held c.serve_desks.new.sink) × IsReadThrough m (g.S.Source.left c.args.source.now) (g.S.Source.left c.serve_desks.new.source)) (sym c.in-Desks.is)
    (refused (Desks c.in-Desks.count) c.in-Ok.plan.script (g.S.Source.left c.args.source.now) (g.S.Source.left c.serve_desks.new.source) (g.K.Sink.held c.args.sink.now) (g.K.Sink.held c.serve_desks.new.sink) c.serve_desks.result c.status_of-in-Desks.result c.status_of-in-Desks.ensures.value c.serve_desks.ensures.ok c.serve_desks.ensures.through e))

pub returns-in-Desks-clause-begun : goal.returns-in-Desks-clause-begun
returns-in-Desks-clause-begun g c =
    planned (plan_of (map string_bytes c.args.words.now)) c.in-Ok.plan (λ (plan : Plan). HasBegun plan.mode plan.script (g.S.Source.left c.args.source.now) (g.K.Sink.held c.args.sink.now) (g.K.Sink.held c.serve_desks.new.sink)) c.in-Ok.ensures.plan
    (subst (λ (m : Mode). HasBegun m c.in-Ok.plan.script (g.S.Source.left c.args.source.now) (g.K.Sink.held c.args.sink.now) (g.K.Sink.held c.serve_desks.new.sink)) (sym c.in-Desks.is)
    (begins (Desks c.in-Desks.count) c.in-Ok.plan.script (g.S.Source.left c.args.source.now) (g.K.Sink.held c.args.sink.now) (g.K.Sink.held c.serve_desks.new.sink) c.serve_desks.result c.serve_desks.ensures.ok c.serve_desks.ensures.begun))

pub returns-in-Desks-clause-memory : goal.returns-in-Desks-clause-memory
returns-in-Desks-clause-memory g c = λ e.
    planned (plan_of (map string_bytes c.args.words.now)) c.in-Ok.plan (λ (plan : Plan). HasKept plan.mode (g.K.Sink.held c.args.sink.now) (g.K.Sink.held c.serve_desks.new.sink)) c.in-Ok.ensures.plan
    (subst (λ (m : Mode). HasKept m (g.K.Sink.held c.args.sink.now) (g.K.Sink.held c.serve_desks.new.sink)) (sym c.in-Desks.is)
    (tt))

pub returns-in-Desks-clause-refines : goal.returns-in-Desks-clause-refines
returns-in-Desks-clause-refines g c =
    planned (plan_of (map string_bytes c.args.words.now)) c.in-Ok.plan (λ (plan : Plan). OfInput plan.mode (g.S.Source.left c.args.source.now) (λ input. HasRefined plan.mode c.status_of-in-Desks.result plan.script input (g.K.Sink.held c.args.sink.now) (g.K.Sink.held c.serve_desks.new.sink))) c.in-Ok.ensures.plan
    (subst (λ (m : Mode). OfInput m (g.S.Source.left c.args.source.now) (λ input. HasRefined m c.status_of-in-Desks.result c.in-Ok.plan.script input (g.K.Sink.held c.args.sink.now) (g.K.Sink.held c.serve_desks.new.sink))) (sym c.in-Desks.is)
    (refined_desks c.in-Desks.count c.in-Ok.plan.script (g.S.Source.left c.args.source.now) (g.K.Sink.held c.args.sink.now) (g.K.Sink.held c.serve_desks.new.sink) c.serve_desks.result c.status_of-in-Desks.result c.status_of-in-Desks.ensures.value c.serve_desks.ensures.prints))

pub returns-in-Desks-clause-builds : goal.returns-in-Desks-clause-builds
returns-in-Desks-clause-builds g c =
    planned (plan_of (map string_bytes c.args.words.now)) c.in-Ok.plan (λ (plan : Plan). HasCounted plan.mode c.status_of-in-Desks.result plan.script (g.S.Source.left c.args.source.now) (g.S.Source.left c.serve_desks.new.source) c.args.meter.now c.serve_desks.new.meter) c.in-Ok.ensures.plan
    (subst (λ (m : Mode). HasCounted m c.status_of-in-Desks.result c.in-Ok.plan.script (g.S.Source.left c.args.source.now) (g.S.Source.left c.serve_desks.new.source) c.args.meter.now c.serve_desks.new.meter) (sym c.in-Desks.is)
    (counted_desks c.in-Desks.count c.in-Ok.plan.script (g.S.Source.left c.args.source.now) (g.S.Source.left c.serve_desks.new.source) c.args.meter.now c.serve_desks.new.meter c.serve_desks.result c.status_of-in-Desks.result c.status_of-in-Desks.ensures.value c.serve_desks.ensures.counts c.serve_desks.ensures.uncounted))

pub returns-in-Desks-clause-unread : goal.returns-in-Desks-clause-unread
returns-in-Desks-clause-unread g c =
    never_made (plan_of (map string_bytes c.args.words.now)) c.in-Ok.plan (c.serve_desks.new.source ≡ c.args.source.now) c.in-Ok.ensures.plan
    (not_desks c.in-Ok.plan.mode c.in-Desks.count c.in-Desks.is)

pub returns-in-Generate-clause-done : goal.returns-in-Generate-clause-done
returns-in-Generate-clause-done g c = λ e.
    planned (plan_of (map string_bytes c.args.words.now)) c.in-Ok.plan (λ (plan : Plan). HasAnswered plan.mode plan.script false (g.S.Source.left c.args.source.now) (g.K.Sink.held c.args.sink.now) (g.K.Sink.held c.generate.new.sink) × IsReadThrough plan.mode (g.S.Source.left c.args.source.now) (g.S.Source.left c.args.source.now)) c.in-Ok.ensures.plan
    (subst (λ (m : Mode). HasAnswered m c.in-Ok.plan.script false (g.S.Source.left c.args.source.now) (g.K.Sink.held c.args.sink.now) (g.K.Sink.held c.generate.new.sink) × IsReadThrough m (g.S.Source.left c.args.source.now) (g.S.Source.left c.args.source.now)) (sym c.in-Generate.is)
    (done (Generate c.in-Generate.count) c.in-Ok.plan.script (g.S.Source.left c.args.source.now) (g.S.Source.left c.args.source.now) (g.K.Sink.held c.args.sink.now) (g.K.Sink.held c.generate.new.sink) c.generate.result c.status_of-in-Generate.result c.status_of-in-Generate.ensures.value (generating.answered c.in-Ok.plan.script c.in-Generate.count (g.S.Source.left c.args.source.now) (g.K.Sink.held c.args.sink.now) (g.K.Sink.held c.generate.new.sink) c.generate.result c.generate.ensures.ok) (generating.unread c.generate.result (g.S.Source.left c.args.source.now)) e))

pub returns-in-Generate-clause-refused : goal.returns-in-Generate-clause-refused
returns-in-Generate-clause-refused g c = λ e.
    planned (plan_of (map string_bytes c.args.words.now)) c.in-Ok.plan (λ (plan : Plan). HasAnswered plan.mode plan.script true (g.S.Source.left c.args.source.now) (g.K.Sink.held c.args.sink.now) (g.K.Sink.held c.generate.new.sink) × IsReadThrough plan.mode (g.S.Source.left c.args.source.now) (g.S.Source.left c.args.source.now)) c.in-Ok.ensures.plan
    (subst (λ (m : Mode). HasAnswered m c.in-Ok.plan.script true (g.S.Source.left c.args.source.now) (g.K.Sink.held c.args.sink.now) (g.K.Sink.held c.generate.new.sink) × IsReadThrough m (g.S.Source.left c.args.source.now) (g.S.Source.left c.args.source.now)) (sym c.in-Generate.is)
    (refused (Generate c.in-Generate.count) c.in-Ok.plan.script (g.S.Source.left c.args.source.now) (g.S.Source.left c.args.source.now) (g.K.Sink.held c.args.sink.now) (g.K.Sink.held c.generate.new.sink) c.generate.result c.status_of-in-Generate.result c.status_of-in-Generate.ensures.value (generating.answered c.in-Ok.plan.script c.in-Generate.count (g.S.Source.left c.args.source.now) (g.K.Sink.held c.args.sink.now) (g.K.Sink.held c.generate.new.sink) c.generate.result c.generate.ensures.ok) (generating.unread c.generate.result (g.S.Source.left c.args.source.now)) e))

pub returns-in-Generate-clause-begun : goal.returns-in-Generate-clause-begun
returns-in-Generate-clause-begun g c =
    planned (plan_of (map string_bytes c.args.words.now)) c.in-Ok.plan (λ (plan : Plan). HasBegun plan.mode plan.script (g.S.Source.left c.args.source.now) (g.K.Sink.held c.args.sink.now) (g.K.Sink.held c.generate.new.sink)) c.in-Ok.ensures.plan
    (subst (λ (m : Mode). HasBegun m c.in-Ok.plan.script (g.S.Source.left c.args.source.now) (g.K.Sink.held c.args.sink.now) (g.K.Sink.held c.generate.new.sink)) (sym c.in-Generate.is)
    (generating.begun c.in-Ok.plan.script c.in-Generate.count (g.S.Source.left c.args.source.now) (g.K.Sink.held c.args.sink.now) (g.K.Sink.held c.generate.new.sink) c.generate.result c.generate.ensures.ok c.generate.ensures.begun))

pub returns-in-Generate-clause-memory : goal.returns-in-Generate-clause-memory
returns-in-Generate-clause-memory g c = λ e.
    planned (plan_of (map string_bytes c.args.words.now)) c.in-Ok.plan (λ (plan : Plan). HasKept plan.mode (g.K.Sink.held c.args.sink.now) (g.K.Sink.held c.generate.new.sink)) c.in-Ok.ensures.plan
    (subst (λ (m : Mode). HasKept m (g.K.Sink.held c.args.sink.now) (g.K.Sink.held c.generate.new.sink)) (sym c.in-Generate.is)
    (c.generate.ensures.memory (was_memory c.generate.result c.status_of-in-Generate.result c.status_of-in-Generate.ensures.value e)))

pub returns-in-Generate-clause-refines : goal.returns-in-Generate-clause-refines
returns-in-Generate-clause-refines g c =
    planned (plan_of (map string_bytes c.args.words.now)) c.in-Ok.plan (λ (plan : Plan). OfInput plan.mode (g.S.Source.left c.args.source.now) (λ input. HasRefined plan.mode c.status_of-in-Generate.result plan.script input (g.K.Sink.held c.args.sink.now) (g.K.Sink.held c.generate.new.sink))) c.in-Ok.ensures.plan
    (subst (λ (m : Mode). OfInput m (g.S.Source.left c.args.source.now) (λ input. HasRefined m c.status_of-in-Generate.result c.in-Ok.plan.script input (g.K.Sink.held c.args.sink.now) (g.K.Sink.held c.generate.new.sink))) (sym c.in-Generate.is)
    (generating.refined c.in-Ok.plan.script c.in-Generate.count (g.S.Source.left c.args.source.now) (g.K.Sink.held c.args.sink.now) (g.K.Sink.held c.generate.new.sink) c.generate.result c.status_of-in-Generate.result c.status_of-in-Generate.ensures.value c.generate.ensures.refines))

pub returns-in-Generate-clause-builds : goal.returns-in-Generate-clause-builds
returns-in-Generate-clause-builds g c =
    planned (plan_of (map string_bytes c.args.words.now)) c.in-Ok.plan (λ (plan : Plan). HasCounted plan.mode c.status_of-in-Generate.result plan.script (g.S.Source.left c.args.source.now) (g.S.Source.left c.args.source.now) c.args.meter.now c.generate.new.meter) c.in-Ok.ensures.plan
    (subst (λ (m : Mode). HasCounted m c.status_of-in-Generate.result c.in-Ok.plan.script (g.S.Source.left c.args.source.now) (g.S.Source.left c.args.source.now) c.args.meter.now c.generate.new.meter) (sym c.in-Generate.is)
    (generating.counted c.in-Ok.plan.script c.in-Generate.count (g.S.Source.left c.args.source.now) (g.K.Sink.held c.args.sink.now) (g.K.Sink.held c.generate.new.sink) c.generate.result c.status_of-in-Generate.result c.args.meter.now c.generate.new.meter c.status_of-in-Generate.ensures.value c.generate.ensures.builds))

pub returns-in-Generate-clause-read_fault : goal.returns-in-Generate-clause-read_fault
returns-in-Generate-clause-read_fault g c = λ e. absurd (c.generate.ensures.source (was_source c.generate.result c.status_of-in-Generate.result c.status_of-in-Generate.ensures.value e))

pub returns-in-Err-Memory-clause-unread : goal.returns-in-Err-Memory-clause-unread
returns-in-Err-Memory-clause-unread g c =
    each_plan (plan_of (map string_bytes c.args.words.now)) (λ (plan : Plan). (count : ℕ) → plan.mode ≡ Generate count → c.args.source.now ≡ c.args.source.now) (λ plan count made. refl)

pub returns-in-Synth-clause-unread : goal.returns-in-Synth-clause-unread
returns-in-Synth-clause-unread g c =
    never_made (plan_of (map string_bytes c.args.words.now)) c.in-Ok.plan (c.synthesise.new.source ≡ c.args.source.now) c.in-Ok.ensures.plan (not_synth c.in-Ok.plan.mode c.in-Synth.is)

pub returns-in-Session-clause-unread : goal.returns-in-Session-clause-unread
returns-in-Session-clause-unread g c =
    never_made (plan_of (map string_bytes c.args.words.now)) c.in-Ok.plan (c.converse.new.source ≡ c.args.source.now) c.in-Ok.ensures.plan (not_session c.in-Ok.plan.mode c.in-Session.is)

pub returns-in-Generate-clause-unread : goal.returns-in-Generate-clause-unread
returns-in-Generate-clause-unread g c =
    each_plan (plan_of (map string_bytes c.args.words.now)) (λ (plan : Plan). (count : ℕ) → plan.mode ≡ Generate count → c.args.source.now ≡ c.args.source.now) (λ plan count made. refl)

pub returns-in-Generate-clause-complete : goal.returns-in-Generate-clause-complete
returns-in-Generate-clause-complete g c =
    on_some (plan_of (map string_bytes c.args.words.now))
    ((HasRisen (g.S.Source.faults c.args.source.now) (g.S.Source.faults c.args.source.now) → ⊥) → (HasRisen (g.K.Sink.faults c.args.sink.now) (g.K.Sink.faults c.generate.new.sink) → ⊥)
    → IsCompleted c.status_of-in-Generate.result)
    (λ source sink.
    completed c.generate.result c.status_of-in-Generate.result (HasRisen (g.K.Sink.faults c.args.sink.now) (g.K.Sink.faults c.generate.new.sink)) c.status_of-in-Generate.ensures.value
    c.generate.ensures.source c.generate.ensures.cause sink)

pub generate-requires-clause-modules : goal.generate-requires-clause-modules
generate-requires-clause-modules g c κs within = c.in-Ok.ensures.modules c.in-Generate.count c.in-Generate.is

pub serve_desks-requires-clause-range : goal.serve_desks-requires-clause-range
serve_desks-requires-clause-range g c κs script = c.in-Ok.ensures.desks c.in-Desks.count c.in-Desks.is
