use Rattle.std.proofs.Common.{◌≡◌, take}
use Rattle.result_cache.specs.Filled.{HoldsNone, filled_keys}
use Rattle.build_crew.specs.Forgetting.{without}
use Rattle.desk_core.proofs.own_results.give_up_own.Given as goal

-- the values of the keys before this one are given up
abbrev pub invariant-loop-key : goal.invariant-loop-key
invariant-loop-key l = record {
  free : HoldsNone l.shard;
  left : filled_keys l.shard ≡ without (take l.key-index l.keys) (filled_keys l.initial.shard);
}
