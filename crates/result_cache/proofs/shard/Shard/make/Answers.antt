use Rattle.std.specs.Vec.{vec_capacity}
use Rattle.result_cache.proofs.Calls.{sound_empty}
use Rattle.result_cache.proofs.shard.Shard.make.Goals as goal

pub invariant_of-result : goal.invariant_of-result
invariant_of-result g c =
    rw (c.make.ensures.value, c.new.ensures.items, c.new-2.ensures.items) (sound_empty g.row.V.Denot g.V.Keyed.stands_for (vec_capacity c.new-2.result))
