use Rattle.std.proofs.Common.{subst}
use Rattle.result_cache.specs.Seats.{AreIdle}
use Rattle.result_cache.proofs.Idle.{idle_last, idle_but_last}
use Rattle.run_table.proofs.shared.crowd.ended.Goals as goal

pub end-claims-requires-clause-cache : goal.end-claims-requires-clause-cache
end-claims-requires-clause-cache g c κs within =
    let cache = c.args.cache.now.table.shared.table_id in
    (idle_last cache c.pop.new.self.items c.in-Some.seat (subst (AreIdle cache) c.in-Some.ensures.items c.loop-seat.invariant)).0

pub end-claims-requires-clause-holds_no_ticket : goal.end-claims-requires-clause-holds_no_ticket
end-claims-requires-clause-holds_no_ticket g c κs within =
    let cache = c.args.cache.now.table.shared.table_id in
    (idle_last cache c.pop.new.self.items c.in-Some.seat (subst (AreIdle cache) c.in-Some.ensures.items c.loop-seat.invariant)).1

pub loop-seat-preserved : goal.loop-seat-preserved
loop-seat-preserved g c =
    let cache = c.args.cache.now.table.shared.table_id in
    idle_but_last cache c.pop.new.self.items c.in-Some.seat (subst (AreIdle cache) c.in-Some.ensures.items c.loop-seat.invariant)
