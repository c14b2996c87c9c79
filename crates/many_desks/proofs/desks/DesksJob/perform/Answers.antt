use Rattle.std.proofs.Common.{◌≡◌, ℕ, ap, drop, sym, ◌+◌, ◌∙◌, subst, arith, rules}
use Rattle.rtl_bits.specs.Counts.{risen}
use Rattle.work_crew.proofs.Steps.{risen_more}
use Rattle.many_desks.proofs.Answered.{does_at, replies_at}
use Rattle.many_desks.proofs.Ways.{OnItsWay, way_begins, way_goes_at, way_ends}
use Rattle.many_desks.proofs.desks.DesksJob.perform.Goals as goal

pub returns-in_err-state-clause-err : goal.returns-in_err-state-clause-err
returns-in_err-state-clause-err g c =
    let s : (n : ℕ) × (c.args.meter.now ≡ risen c.args.meter.now n) × Unit {0} = (0, omega arith, tt) in
    search (rules, s)

pub loop-command-init : goal.loop-command-init
loop-command-init g c =
    let table = c.args.self.now.table.now in
    record {
      idle = c.requires.token;
      way = way_begins (g.T.Table.steps table) (g.T.Table.does table) (g.T.Table.first_state table) c.as_slice-commands.result.now c.args.token.now c.args.meter.now c.in_ok-state.state c.make-replies.result c.in_ok-state.ensures.value
          c.make-replies.ensures.value;
    }

pub returns-in_err-reply-clause-err : goal.returns-in_err-reply-clause-err
returns-in_err-reply-clause-err g c =
    let w = c.loop-command.invariant.way in
    let e = c.in_err-reply.ensures.err in
    let s : (n : ℕ) × (c.answer.new.meter ≡ risen c.args.meter.now n) × Unit {0} = (w.ticks + e.0, e.1 ∙ ap (λ m. risen m e.0) w.meter ∙ risen_more c.args.meter.now w.ticks e.0, tt) in
    search (rules, s)

pub returns-in_err-push-clause-err : goal.returns-in_err-push-clause-err
returns-in_err-push-clause-err g c =
    let w = c.loop-command.invariant.way in
    let o = c.in_ok-reply.ensures.ok in
    let s : (n : ℕ) × (c.answer.new.meter ≡ risen c.args.meter.now n) × Unit {0} = (w.ticks + o.0, o.1 ∙ ap (λ m. risen m o.0) w.meter ∙ risen_more c.args.meter.now w.ticks o.0, tt) in
    search (rules, s)

pub loop-command-preserved : goal.loop-command-preserved
loop-command-preserved g c =
    let l = c.loop-command in
    let table = c.args.self.now.table.now in
    let commands = c.as_slice-commands.result.now in
    let o = c.in_ok-reply.ensures.ok in
    record {
      idle = c.answer.ensures.idle;
      way = subst (λ replies. OnItsWay (g.T.Table.steps table) (g.T.Table.does table) (g.T.Table.first_state table) commands c.args.token.now c.args.meter.now (drop (l.command-index + 1) commands) c.answer.new.state replies c.answer.new.seat c.answer.new.meter)
          (sym c.in_ok-push.ensures.ok)
          (way_goes_at (g.T.Table.steps table) (g.T.Table.does table) (g.T.Table.first_state table) commands c.args.token.now c.args.meter.now l.command-index c.command-item.result l.state c.answer.new.state l.replies c.in_ok-reply.reply l.token c.answer.new.seat o.0 l.meter
          c.answer.new.meter c.loop-command-test.true c.command-item.is l.invariant.way c.in_ok-reply.ensures.step o.1 o.2);
    }

pub returns-clause-fits : goal.returns-clause-fits
returns-clause-fits g c =
    let l = c.loop-command in
    let desks = c.args.self.now in
    let table = desks.table.now in
    let commands = c.as_slice-commands.result.now in
    let same = c.as_slice-commands.ensures.value ∙ sym c.index-self-number.is in
    replies_at (g.T.Table.steps table) (g.T.Table.first_state table) desks.lists.now c.args.number c.index-self-number.result commands c.requires.job c.index-self-number.is same l.replies
    (way_ends (g.T.Table.steps table) (g.T.Table.does table) (g.T.Table.first_state table) commands c.args.token.now c.args.meter.now l.command-index l.state l.replies l.token l.meter c.loop-command-test.false l.invariant.way).0

pub returns-clause-ok : goal.returns-clause-ok
returns-clause-ok g c =
    let l = c.loop-command in
    let desks = c.args.self.now in
    let table = desks.table.now in
    let commands = c.as_slice-commands.result.now in
    let same = c.as_slice-commands.ensures.value ∙ sym c.index-self-number.is in
    let e = (way_ends (g.T.Table.steps table) (g.T.Table.does table) (g.T.Table.first_state table) commands c.args.token.now c.args.meter.now l.command-index l.state l.replies l.token l.meter c.loop-command-test.false l.invariant.way).1 in
    let done = does_at (g.T.Table.steps table) (g.T.Table.first_state table) desks.lists.now c.args.number c.index-self-number.result commands c.requires.job c.index-self-number.is same (g.T.Table.does table) l.replies c.args.token.now l.token e.0 e.2 in
    (e.0, e.1, done)
