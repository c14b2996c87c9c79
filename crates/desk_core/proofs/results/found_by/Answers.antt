use Rattle.desk_core.proofs.Finding.{seated_after}
use Rattle.desk_core.proofs.results.found_by.Goals as goal

pub returns-clause-seats : goal.returns-clause-seats
returns-clause-seats g c =
    let cache = c.args.cache.now in
    seated_after cache.table.shared.table_id cache.shards c.args.seats.now c.run.new.seats c.run.auto.seats c.requires.seats c.run.ensures.seats c.run.ensures.shared
