use Rattle.std.proofs.Common.{◌≡◌, length}
use Rattle.result_cache.proofs.make.zeros.Given as goal

abbrev pub invariant-loop : goal.invariant-loop
invariant-loop l = length l.words.items ≡ l.counter
