use Rattle.std.proofs.Common.{subst}
use Rattle.result_cache.specs.Seats.{HasClaimed}
use Rattle.build_crew.proofs.Asking.{asking_busy, asking_hit, asking_waited, asking_yours, hit_idle}
use Rattle.build_crew.proofs.ask.ask.Goals as goal

pub returns-in-Hit-clause-ok : goal.returns-in-Hit-clause-ok
returns-in-Hit-clause-ok g c =
    let h = subst (HasClaimed g.V.Keyed.stands_for c.loop.seat c.claim.new.seat c.args.key.now) c.in-Hit.is c.in_ok-value.ensures.ok in
    let asking = c.loop.invariant.2 in
    (h.0, hit_idle c.args.seat.now c.loop.seat c.claim.new.seat c.args.key.now h.1.0 asking h.1.1, asking_hit c.args.seat.now c.loop.seat c.claim.new.seat c.args.key.now h.1.0 asking h.1.1)

pub returns-in-Yours-clause-ok : goal.returns-in-Yours-clause-ok
returns-in-Yours-clause-ok g c =
    let h = subst (HasClaimed g.V.Keyed.stands_for c.loop.seat c.claim.new.seat c.args.key.now) c.in-Yours.is c.in_ok-value.ensures.ok in
    asking_yours c.args.seat.now c.loop.seat c.claim.new.seat c.args.key.now c.in-Yours.ticket c.loop.invariant.2 h.0 h.1 h.2

pub loop-preserved : goal.loop-preserved
loop-preserved g c =
    let h = subst (HasClaimed g.V.Keyed.stands_for c.loop.seat c.claim.new.seat c.args.key.now) c.in-Busy.is c.in_ok-value.ensures.ok in
    let asking = asking_busy c.args.seat.now c.loop.seat c.claim.new.seat c.args.key.now c.in-Busy._by c.loop.invariant.2 h.1 in
    (tt, tt, asking_waited c.args.seat.now c.claim.new.seat c.wait_key.new.seat c.args.key.now asking c.wait_key.ensures.waited)
