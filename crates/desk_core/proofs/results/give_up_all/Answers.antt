use denote.Param.Send.{sendable}
use Rattle.desk_core.proofs.Sending.{kept_send}
use Rattle.desk_core.proofs.results.give_up_all.Goals as goal

pub forget-requires-send-V : goal.forget-requires-send-V
forget-requires-send-V g c κs within = search (sendable, kept_send) depth 40

pub forget-requires-clause-cache : goal.forget-requires-clause-cache
forget-requires-clause-cache g c κs within = c.loop-key.invariant.cache_is
