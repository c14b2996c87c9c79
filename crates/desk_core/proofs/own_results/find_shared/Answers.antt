use denote.Param.Send.{sendable}
use Rattle.desk_core.proofs.Sending.{kept_send}
use Rattle.desk_core.proofs.own_results.find_shared.Goals as goal

pub find-requires-send-O-Value : goal.find-requires-send-O-Value
find-requires-send-O-Value g c κs within = search (sendable, kept_send)
