use Rattle.std.proofs.Common.{◌≡◌, []}
use Rattle.result_cache.specs.Shared.{view_of}
use Rattle.result_cache.specs.Meet.{LookedTo}
use Rattle.result_cache.proofs.cache.SharedCache.look_at_all.Given as goal

abbrev pub invariant-loop-at : goal.invariant-loop-at
invariant-loop-at g l = record {
  cache : l.pass.table_id ≡ l.initial.pass.table_id;
  view : l.pass.me ≡ (view_of l.pass.me.0.seats, []);
  looked : LookedTo l.at l.initial.pass.me.0.seats l.pass.me.0.seats;
}
