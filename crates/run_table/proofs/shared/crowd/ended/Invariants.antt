use Rattle.std.proofs.Common.{length}
use Rattle.result_cache.specs.Seats.{AreIdle}
use Rattle.run_table.proofs.shared.crowd.ended.Given as goal

abbrev pub invariant-loop-seat : goal.invariant-loop-seat
invariant-loop-seat g l = AreIdle l.cache.table.shared.table_id l.seats.items

abbrev pub decreases-loop-seat : goal.decreases-loop-seat
decreases-loop-seat g l = length l.seats.items
