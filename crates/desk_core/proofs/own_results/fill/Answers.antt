use Rattle.std.proofs.Common.{List, ℕ, ap, ◌∙◌}
use Rattle.result_cache.specs.Filled.{filled_keys, with_key}
use Rattle.result_cache.proofs.FilledKeys.{filled_more, filled_stay}
use denote.Param.Send.{sendable}
use Rattle.desk_core.proofs.Sending.{kept_send}
use Rattle.desk_core.proofs.OwnShard.{back_free, fill_free}
use Rattle.desk_core.proofs.own_results.fill.Goals as goal

pub fill-requires-send-V : goal.fill-requires-send-V
fill-requires-send-V g c κs = search (sendable, kept_send)

pub give_back-requires-send-V : goal.give_back-requires-send-V
give_back-requires-send-V g c κs = search (sendable, kept_send)

pub returns-in-Ok-clause-filled : goal.returns-in-Ok-clause-filled
returns-in-Ok-clause-filled g c =
    filled_more c.args.shard.now c.fill.new.self c.args.ticket.key _ c.fill.ensures.values
    ∙ ap (λ (k : List ℕ). with_key k (filled_keys c.args.shard.now)) c.requires.ticket

pub returns-in-Ok-clause-free : goal.returns-in-Ok-clause-free
returns-in-Ok-clause-free g c = fill_free c.args.shard.now c.fill.new.self c.args.ticket.key _ c.requires.alone c.fill.ensures.history

pub returns-in-Err-clause-err : goal.returns-in-Err-clause-err
returns-in-Err-clause-err g c = filled_stay c.args.shard.now c.give_back.new.self c.give_back.ensures.values

pub returns-in-Err-clause-free : goal.returns-in-Err-clause-free
returns-in-Err-clause-free g c = back_free c.args.shard.now c.give_back.new.self c.args.ticket.key c.requires.alone c.give_back.ensures.history
