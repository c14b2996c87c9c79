use Rattle.std.proofs.Common.{◌≡◌, length}
use Rattle.result_cache.specs.Shared.{AreUncalled}
use Rattle.result_cache.proofs.make.empty_shards.Given as goal

abbrev pub invariant-loop : goal.invariant-loop
invariant-loop g l = record { count : length l.shards.items ≡ l.counter; new : AreUncalled l.shards.items }
