-- Each caller is one of the cache.
use Rattle.run_table.specs.Callers.{IsCaller}
use Rattle.run_table.proofs.shared.seats.are_made.Given as goal

abbrev pub invariant-loop-step : goal.invariant-loop-step
invariant-loop-step g l = record {
  first : IsCaller l.cache.table.shared.table_id l.first;
  second : IsCaller l.cache.table.shared.table_id l.second;
}
