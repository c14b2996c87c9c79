use Rattle.std.proofs.Common.{◌≡◌, ℕ, List, length, subst, sym, take, ◌∙◌}
use Rattle.std.specs.Prelude.{All}
use Rattle.std.specs.Io.KnownBytes.{Appends}
use Rattle.many_desks.specs.Replies.{Replies}
use Rattle.desk_core.specs.State.{first_state}
use Rattle.desk_core.specs.Step.{IsStep}
use Rattle.synth_run.specs.Routes.{IsOf, any_error, bytes_of, replies_to}
use Rattle.synth_run.specs.declared.routes.Tag.{Tag}
use Rattle.synth_run.specs.declared.words.Mode.TheVariants.{Desks}
use Rattle.synth_run.proofs.Owing.{owes_any, owes_counts, owes_front, owes_long, owes_long_front, owes_long_prints, owes_ok, owes_prints, owes_through}
use Rattle.synth_run.proofs.Replying.{begun_none}
use Rattle.synth_run.proofs.Served.{zip_count}
use Rattle.synth_run.proofs.Written.{on_err}
use Rattle.synth_run.proofs.desks.serve_desks.Goals as goal

pub returns-in_default-clause-begun : goal.returns-in_default-clause-begun
returns-in_default-clause-begun g c =
    begun_none (Desks c.args.count) c.args.plan.script (g.S.Source.left c.args.source.now) (g.K.Sink.held c.args.sink.now) c.requires.script

pub returns-in_default-piece_of-clause-begun : goal.returns-in_default-piece_of-clause-begun
returns-in_default-piece_of-clause-begun g c =
    begun_none (Desks c.args.count) c.args.plan.script (g.S.Source.left c.args.source.now) (g.K.Sink.held c.args.sink.now) c.requires.script

pub returns-in_err-past-clause-begun : goal.returns-in_err-past-clause-begun
returns-in_err-past-clause-begun g c =
    on_err c.from_residual.result (begun_none (Desks c.args.count) c.args.plan.script (g.S.Source.left c.args.source.now) (g.K.Sink.held c.args.sink.now) c.requires.script)

pub returns-in_default-answer_all-clause-begun : goal.returns-in_default-answer_all-clause-begun
returns-in_default-answer_all-clause-begun g c =
    begun_none (Desks c.args.count) c.args.plan.script (g.S.Source.left c.args.source.now) (g.K.Sink.held c.args.sink.now) c.requires.script

pub write_all-requires : goal.write_all-requires
write_all-requires g c = record {
  range =
      subst (λ (tags : List Tag). All (IsOf (length c.in-Ok-answer_all.answers)) tags) (sym c.as_slice.ensures.value)
      (subst (λ (n : ℕ). All (IsOf n) c.read_all.new.self.parts.items)
      (sym (zip_count (Replies IsStep (first_state c.args.plan.script)) c.read_all.new.self.lists.items c.in-Ok-answer_all.answers c.in-Ok-answer_all.ensures.replies))
      c.in_ok-past.ensures.router.tags);
}

pub returns-in_err-refused-clause-begun : goal.returns-in_err-refused-clause-begun
returns-in_err-refused-clause-begun g c =
    on_err c.from_residual-in_err-refused.result
    (owes_front c.args.plan.script c.args.count (length c.in-Ok.router.lists.items) c.read_all.new.self c.in-Ok-answer_all.answers (g.S.Source.left c.args.source.now) (g.S.Source.left c.read_all.new.source)
    c.in_ok-past.past c.in_ok-past.ensures.router c.in-Ok.ensures.count c.in_ok-past.ensures.ok c.in-Ok-answer_all.ensures.replies (g.K.Sink.held c.args.sink.now) (g.K.Sink.held c.write_all.new.sink)
    (subst (λ (tags : List Tag). (size : ℕ) × Appends (g.K.Sink.held c.args.sink.now) (g.K.Sink.held c.write_all.new.sink) (take size (bytes_of (replies_to tags c.in-Ok-answer_all.answers)))) c.as_slice.ensures.value c.in_err-refused.ensures.err))

pub returns-clause-ok : goal.returns-clause-ok
returns-clause-ok g c =
    owes_ok c.args.plan.script c.args.count (length c.in-Ok.router.lists.items) c.read_all.new.self c.in-Ok-answer_all.answers (g.S.Source.left c.args.source.now) (g.S.Source.left c.read_all.new.source)
    c.in_ok-past.past c.in_ok-past.ensures.router c.in-Ok.ensures.count c.in_ok-past.ensures.ok c.in-Ok-answer_all.ensures.replies (g.K.Sink.held c.args.sink.now) (g.K.Sink.held c.write_all.new.sink) c.in_ok-refused.refused c.if-past.false
    (subst (λ (tags : List Tag). Appends (g.K.Sink.held c.args.sink.now) (g.K.Sink.held c.write_all.new.sink) (bytes_of (replies_to tags c.in-Ok-answer_all.answers))) c.as_slice.ensures.value c.in_ok-refused.ensures.ok.1)
    (subst (λ (tags : List Tag). c.in_ok-refused.refused ≡ any_error (replies_to tags c.in-Ok-answer_all.answers)) c.as_slice.ensures.value c.in_ok-refused.ensures.ok.0)

pub returns-clause-through : goal.returns-clause-through
returns-clause-through g c =
    owes_through c.args.plan.script c.args.count (length c.in-Ok.router.lists.items) c.read_all.new.self c.in-Ok-answer_all.answers (g.S.Source.left c.args.source.now) (g.S.Source.left c.read_all.new.source)
    c.in_ok-past.past c.in_ok-past.ensures.router c.in-Ok.ensures.count c.in_ok-past.ensures.ok c.in-Ok-answer_all.ensures.replies

pub returns-clause-prints : goal.returns-clause-prints
returns-clause-prints g c =
    owes_prints c.args.plan.script c.args.count (length c.in-Ok.router.lists.items) c.read_all.new.self c.in-Ok-answer_all.answers (g.S.Source.left c.args.source.now) (g.S.Source.left c.read_all.new.source)
    c.in_ok-past.past c.in_ok-past.ensures.router c.in-Ok.ensures.count c.in_ok-past.ensures.ok c.in-Ok-answer_all.ensures.replies (g.K.Sink.held c.args.sink.now) (g.K.Sink.held c.write_all.new.sink) c.requires.script c.if-past.false
    (subst (λ (tags : List Tag). Appends (g.K.Sink.held c.args.sink.now) (g.K.Sink.held c.write_all.new.sink) (bytes_of (replies_to tags c.in-Ok-answer_all.answers))) c.as_slice.ensures.value c.in_ok-refused.ensures.ok.1)

pub returns-in_err-refused-clause-counts : goal.returns-in_err-refused-clause-counts
returns-in_err-refused-clause-counts g c = λ memory source.
    owes_counts c.args.plan.script c.args.count (length c.in-Ok.router.lists.items) c.read_all.new.self c.in-Ok-answer_all.answers (g.S.Source.left c.args.source.now) (g.S.Source.left c.read_all.new.source)
    c.in_ok-past.past c.in_ok-past.ensures.router c.in-Ok.ensures.count c.in_ok-past.ensures.ok c.in-Ok-answer_all.ensures.replies c.args.meter.now c.answer_all.new.meter c.in-Ok-answer_all.ensures.builds

pub returns-clause-counts : goal.returns-clause-counts
returns-clause-counts g c = λ memory source.
    owes_counts c.args.plan.script c.args.count (length c.in-Ok.router.lists.items) c.read_all.new.self c.in-Ok-answer_all.answers (g.S.Source.left c.args.source.now) (g.S.Source.left c.read_all.new.source)
    c.in_ok-past.past c.in_ok-past.ensures.router c.in-Ok.ensures.count c.in_ok-past.ensures.ok c.in-Ok-answer_all.ensures.replies c.args.meter.now c.answer_all.new.meter c.in-Ok-answer_all.ensures.builds

pub returns-then-past-clause-ok : goal.returns-then-past-clause-ok
returns-then-past-clause-ok g c =
    owes_long c.args.plan.script c.args.count (length c.in-Ok.router.lists.items) c.read_all.new.self c.in-Ok-answer_all.answers (g.S.Source.left c.args.source.now) (g.S.Source.left c.read_all.new.source)
    c.in_ok-past.past c.in_ok-past.ensures.router c.in-Ok.ensures.count c.in_ok-past.ensures.ok c.in-Ok-answer_all.ensures.replies (g.K.Sink.held c.args.sink.now) (g.K.Sink.held c.write_all.new.sink) (g.K.Sink.held c.refuse_long.new.sink) c.if-past.true
    (subst (λ (tags : List Tag). Appends (g.K.Sink.held c.args.sink.now) (g.K.Sink.held c.write_all.new.sink) (bytes_of (replies_to tags c.in-Ok-answer_all.answers))) c.as_slice.ensures.value c.in_ok-refused.ensures.ok.1) c.refuse_long.result c.refuse_long.ensures.ok

pub returns-then-past-clause-begun : goal.returns-then-past-clause-begun
returns-then-past-clause-begun g c =
    owes_long_front c.args.plan.script c.args.count (length c.in-Ok.router.lists.items) c.read_all.new.self c.in-Ok-answer_all.answers (g.S.Source.left c.args.source.now) (g.S.Source.left c.read_all.new.source)
    c.in_ok-past.past c.in_ok-past.ensures.router c.in-Ok.ensures.count c.in_ok-past.ensures.ok c.in-Ok-answer_all.ensures.replies (g.K.Sink.held c.args.sink.now) (g.K.Sink.held c.write_all.new.sink) (g.K.Sink.held c.refuse_long.new.sink) c.if-past.true
    (subst (λ (tags : List Tag). Appends (g.K.Sink.held c.args.sink.now) (g.K.Sink.held c.write_all.new.sink) (bytes_of (replies_to tags c.in-Ok-answer_all.answers))) c.as_slice.ensures.value c.in_ok-refused.ensures.ok.1) c.refuse_long.result c.refuse_long.ensures.err

pub returns-then-past-clause-prints : goal.returns-then-past-clause-prints
returns-then-past-clause-prints g c =
    owes_long_prints c.args.plan.script c.args.count (length c.in-Ok.router.lists.items) c.read_all.new.self c.in-Ok-answer_all.answers (g.S.Source.left c.args.source.now) (g.S.Source.left c.read_all.new.source)
    c.in_ok-past.past c.in_ok-past.ensures.router c.in-Ok.ensures.count c.in_ok-past.ensures.ok c.in-Ok-answer_all.ensures.replies (g.K.Sink.held c.args.sink.now) (g.K.Sink.held c.write_all.new.sink) (g.K.Sink.held c.refuse_long.new.sink) c.if-past.true
    (subst (λ (tags : List Tag). Appends (g.K.Sink.held c.args.sink.now) (g.K.Sink.held c.write_all.new.sink) (bytes_of (replies_to tags c.in-Ok-answer_all.answers))) c.as_slice.ensures.value c.in_ok-refused.ensures.ok.1) c.refuse_long.result c.requires.script c.refuse_long.ensures.ok

pub returns-then-past-clause-through : goal.returns-then-past-clause-through
returns-then-past-clause-through g c =
    owes_any c.refuse_long.result (owes_through c.args.plan.script c.args.count (length c.in-Ok.router.lists.items) c.read_all.new.self c.in-Ok-answer_all.answers (g.S.Source.left c.args.source.now) (g.S.Source.left c.read_all.new.source)
    c.in_ok-past.past c.in_ok-past.ensures.router c.in-Ok.ensures.count c.in_ok-past.ensures.ok c.in-Ok-answer_all.ensures.replies)

pub returns-then-past-clause-counts : goal.returns-then-past-clause-counts
returns-then-past-clause-counts g c = λ memory source.
    owes_counts c.args.plan.script c.args.count (length c.in-Ok.router.lists.items) c.read_all.new.self c.in-Ok-answer_all.answers (g.S.Source.left c.args.source.now) (g.S.Source.left c.read_all.new.source)
    c.in_ok-past.past c.in_ok-past.ensures.router c.in-Ok.ensures.count c.in_ok-past.ensures.ok c.in-Ok-answer_all.ensures.replies c.args.meter.now c.answer_all.new.meter c.in-Ok-answer_all.ensures.builds

pub returns-then-past-clause-sink_count : goal.returns-then-past-clause-sink_count
returns-then-past-clause-sink_count g c = λ other. c.refuse_long.ensures.same other ∙ c.in_ok-refused.ensures.same (λ e. absurd cc)
