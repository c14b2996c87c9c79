use Rattle.std.proofs.Common.{◌+◌, ◌*◌, length}
use Rattle.result_cache.proofs.cache.SharedCache.+gather.Given as goal

abbrev pub decreases-gather : goal.decreases-gather
decreases-gather g l = 2 * length l.seats.now

abbrev pub decreases-gather_one : goal.decreases-gather_one
decreases-gather_one g l = 2 * length l.others.now + 1
