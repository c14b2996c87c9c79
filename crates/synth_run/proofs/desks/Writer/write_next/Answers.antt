use Rattle.std.proofs.Common.{◌≡◌, ◌-◌, ◌∷◌, Bor, List, map, ap, drop, ◌∙◌, arith}
use Rattle.std.specs.Prelude.{slice_set}
use Rattle.std.proofs.lemmas.List.{take_rest}
use Rattle.reply_lines.specs.declared.reply.Reply.{Reply}
use Rattle.synth_run.specs.Routes.{left_of, left_to}
use Rattle.synth_run.proofs.Written.{next_is, set_now, wrote_err, wrote_ok}
use Rattle.synth_run.proofs.desks.Writer.write_next.Goals as goal

pub returns-clause-ok : goal.returns-clause-ok
returns-clause-ok g c =
    let old = c.args.self.now in
    let desk = c.args.desk in
    let replies = c.index.result.now.now in
    let some = c.requires.range.0 in
    let few = c.requires.range.1 in
    let is : left_to desk (left_of old) ≡ c.reply-item.result ∷ drop 1 replies =
    next_is (λ (rs : Bor (List Reply)). rs.now) old.left.items (desk - 1) c.index.result.now replies c.reply-item.result (omega (arith, some, few))
    (ap (λ (rs : Bor (List Reply)). rs.now) c.index.ensures) c.in-len1-up.len_at_least c.reply-item.is in
    wrote_ok c.write.result old c.write.new.self desk c.reply-item.result (drop 1 replies) (g.K.Sink.held c.args.sink.now) (g.K.Sink.held c.write.new.sink) is
    (ap (λ v. map (λ (rs : Bor (List Reply)). rs.now) v.items) c.write.ensures.left ∙ set_now (λ (rs : Bor (List Reply)). rs.now) old.left.items (desk - 1) _
    ∙ ap (slice_set (left_of old) (desk - 1)) (take_rest replies 1))
    c.write.ensures.refused c.write.ensures.ok

pub returns-clause-err : goal.returns-clause-err
returns-clause-err g c =
    let old = c.args.self.now in
    let desk = c.args.desk in
    let replies = c.index.result.now.now in
    let some = c.requires.range.0 in
    let few = c.requires.range.1 in
    let is : left_to desk (left_of old) ≡ c.reply-item.result ∷ drop 1 replies =
    next_is (λ (rs : Bor (List Reply)). rs.now) old.left.items (desk - 1) c.index.result.now replies c.reply-item.result (omega (arith, some, few))
    (ap (λ (rs : Bor (List Reply)). rs.now) c.index.ensures) c.in-len1-up.len_at_least c.reply-item.is in
    wrote_err c.write.result old desk c.reply-item.result (drop 1 replies) (g.K.Sink.held c.args.sink.now) (g.K.Sink.held c.write.new.sink) is c.write.ensures.err
