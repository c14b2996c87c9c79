use Rattle.result_cache.specs.Seats.{IsIdle}
use Rattle.run_table.proofs.shared.crowd.turns.Given as goal

abbrev pub invariant-loop-number : goal.invariant-loop-number
invariant-loop-number g l = IsIdle l.cache.table.shared.table_id l.seat
