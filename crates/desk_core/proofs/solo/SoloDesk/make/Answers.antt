use denote.Param.Send.{sendable}
use Rattle.desk_core.specs.declared.own_results.OwnResults.{OwnResults}
use Rattle.desk_core.proofs.Sending.{kept_send}
use Rattle.desk_core.proofs.SoloRuns.{own_first, own_state_first}
use Rattle.desk_core.proofs.solo.SoloDesk.make.Goals as goal

pub make-requires-2-send-V : goal.make-requires-2-send-V
make-requires-2-send-V c κs = search (sendable, kept_send)

pub invariant_of-result : goal.invariant_of-result
invariant_of-result c =
    let results : OwnResults = record { shard = c.make-2.result; ages = c.make-3.result; found = c.new.result } in
    own_first c.make.result.design.design c.make.result.script results c.make.ensures.design c.make-2.ensures.history c.make-3.ensures.keys c.make-3.ensures.ages c.new.ensures.items

pub returns : goal.returns
returns c =
    let results : OwnResults = record { shard = c.make-2.result; ages = c.make-3.result; found = c.new.result } in
    record { value = own_state_first c.make.result.design.design c.make.result.script c.args.script results c.make.ensures.design c.make.ensures.script c.make-3.ensures.keys }
