use Rattle.result_cache.specs.Filled.{filled_keys, new_count}
use Rattle.result_cache.specs.Seats.{IsIdle}
use Rattle.result_cache.proofs.NewKeys.{keys_below}
use Rattle.build_crew.specs.Rises.{RisesUpTo}
use Rattle.desk_core.specs.Netlist.{key_text_at}
use Rattle.desk_core.specs.Solo.{Builds}
use Rattle.desk_core.proofs.OwnResults.{AreOwnBelow}
use Rattle.desk_core.proofs.own_results.find_own.Given as goal

-- the results of the modules so far are found, and the keys of those that were not kept were asked for
abbrev pub invariant-loop-at : goal.invariant-loop-at
invariant-loop-at g l = record {
  found : AreOwnBelow l.keys.design.now.design l.keys.script.now l.initial.results l.results l.at;
  idle : IsIdle l.access.cache.now.table.shared.table_id l.seat;
  built : Builds (filled_keys l.initial.results.shard) (keys_below (key_text_at l.keys.script.now l.keys.design.now.design.modules) l.at) l.initial.seat l.seat l.initial.meter l.meter;
  ticks : RisesUpTo (new_count (filled_keys l.initial.results.shard) (keys_below (key_text_at l.keys.script.now l.keys.design.now.design.modules) l.at)) l.initial.meter l.meter;
}
