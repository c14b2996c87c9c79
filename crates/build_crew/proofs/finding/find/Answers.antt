use Rattle.std.proofs.Common.{List, ℕ, subst}
use Rattle.build_crew.specs.Calls.{HasAsked, IsAnswered}
use Rattle.build_crew.proofs.Spent.{failed_first, spent_failed, spent_found, spent_idle}
use Rattle.build_crew.proofs.finding.find.Goals as goal

pub returns-in-Yours-clause-idle : goal.returns-in-Yours-clause-idle
returns-in-Yours-clause-idle g c =
    let h = subst (λ (k : List ℕ). HasAsked k c.args.seat.now c.ask.new.seat c.in-Yours.ticket) c.in_ok-text.ensures.value
    (subst (IsAnswered g.O.Value.Keyed.stands_for c.args.seat.now c.ask.new.seat c.in_ok-text.text) c.in-Yours.is c.in_ok-asked.ensures.ok) in
    spent_idle c.args.cache.now.table.shared.table_id c.args.seat.now c.ask.new.seat c.fill.new.seat (g.O.Order.text_of c.args.order.now) c.in-Yours.ticket c.fill.result c.requires.idle h c.fill.ensures.filled c.fill.ensures.given

pub returns-in-Yours-clause-found : goal.returns-in-Yours-clause-found
returns-in-Yours-clause-found g c =
    let h = subst (λ (k : List ℕ). HasAsked k c.args.seat.now c.ask.new.seat c.in-Yours.ticket) c.in_ok-text.ensures.value
    (subst (IsAnswered g.O.Value.Keyed.stands_for c.args.seat.now c.ask.new.seat c.in_ok-text.text) c.in-Yours.is c.in_ok-asked.ensures.ok) in
    spent_found c.args.seat.now c.ask.new.seat c.fill.new.seat (g.O.Order.text_of c.args.order.now) c.in-Yours.ticket c.fill.result c.args.meter.now c.fill.new.meter h c.fill.ensures.is_new c.fill.ensures.filled c.fill.ensures.one_tick

pub returns-in-Yours-clause-failed : goal.returns-in-Yours-clause-failed
returns-in-Yours-clause-failed g c =
    let h = subst (λ (k : List ℕ). HasAsked k c.args.seat.now c.ask.new.seat c.in-Yours.ticket) c.in_ok-text.ensures.value
    (subst (IsAnswered g.O.Value.Keyed.stands_for c.args.seat.now c.ask.new.seat c.in_ok-text.text) c.in-Yours.is c.in_ok-asked.ensures.ok) in
    spent_failed c.args.cache.now.table.shared.table_id c.args.seat.now c.ask.new.seat c.fill.new.seat (g.O.Order.text_of c.args.order.now) c.in-Yours.ticket c.fill.result c.args.meter.now c.fill.new.meter h c.fill.ensures.given c.fill.ensures.one_tick

pub returns-in_err-text-clause-failed : goal.returns-in_err-text-clause-failed
returns-in_err-text-clause-failed g c =
    failed_first c.args.cache.now.table.shared.table_id c.args.seat.now c.from_residual.result c.args.meter.now c.requires.idle
