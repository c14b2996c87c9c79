use Rattle.result_cache.proofs.Idle.{idle_of, idle_met}
use Rattle.run_table.proofs.shared.crowd.work_and_meet.Goals as goal

pub meet-requires-clause-cache : goal.meet-requires-clause-cache
meet-requires-clause-cache g c κs within = idle_of c.args.cache.now.table.shared.table_id c.work.new.seats c.work.ensures.idle

pub returns : goal.returns
returns g c =
    let met = c.meet.ensures.met 0 c.requires.some.2 in
    record { idle = idle_met c.args.cache.now.table.shared.table_id 0 met.0 c.work.new.seats c.meet.new.seats met.1 c.work.ensures.idle }
