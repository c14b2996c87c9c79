use Rattle.std.proofs.Common.{◌≡◌, ◌-◌, ◌++◌, []}
use Rattle.result_cache.specs.Shared.{newcomers, view_of}
use Rattle.result_cache.specs.Seats.{new_seats_from, new_seats}
use Rattle.result_cache.proofs.cache.SharedCache.deal.Given as goal

abbrev pub invariant-loop-number : goal.invariant-loop-number
invariant-loop-number g l = record {
  cache : l.dealer.table_id ≡ l.self.table.shared.table_id;
  view : l.dealer.me ≡ (view_of (newcomers l.callers l.self.shards l.number (l.callers - l.number)), []);
  so_far : l.seats.items ++ new_seats_from l.self.table.shared.table_id l.callers l.self.shards l.number (l.callers - l.number) ≡ new_seats l.self.table.shared.table_id l.callers l.self.shards;
}
