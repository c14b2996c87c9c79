use Rattle.std.proofs.Common.{ℕ, List, take, subst, ap, ◌∙◌}
use Rattle.std.specs.Io.KnownBytes.{Appends}
use Rattle.reply_lines.specs.declared.reply.Reply.{Reply}
use Rattle.synth_run.proofs.session.refuse_long.Goals as goal

pub returns-clause-err : goal.returns-clause-err
returns-clause-err g c =
    subst (λ (t : List ℕ). (n : ℕ) × Appends (g.K.Sink.held c.args.sink.now) (g.K.Sink.held c.write_reply.new.sink) (take n t))
    (c.as_slice.ensures.value ∙ ap (λ (r : Reply). r.text) c.in-Ok.ensures.value) c.write_reply.ensures.front
