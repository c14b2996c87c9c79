use denote.Param.Send.{sendable}
use Rattle.result_cache.specs.Filled.{filled_keys}
use Rattle.desk_core.proofs.OwnShard.{forget_filled, forget_free, gone_at}
use Rattle.desk_core.proofs.Sending.{kept_send}
use Rattle.desk_core.proofs.own_results.give_up_own.Goals as goal

pub forget-requires-send-V : goal.forget-requires-send-V
forget-requires-send-V c κs = search (sendable, kept_send)

pub loop-key-preserved : goal.loop-key-preserved
loop-key-preserved c = record {
  free = forget_free c.loop-key.shard c.forget.new.self c.key-item.result c.forget.result c.loop-key.invariant.free c.forget.ensures.forgot;
  left = gone_at c.args.keys.now c.loop-key.key-index c.key-item.result (filled_keys c.args.shard.now) (filled_keys c.loop-key.shard) (filled_keys c.forget.new.self) c.loop-key-test.true c.key-item.is
      c.loop-key.invariant.left (forget_filled c.loop-key.shard c.forget.new.self c.key-item.result c.forget.ensures.values);
}
