use Rattle.desk_core.specs.Present.{state_with}
use Rattle.desk_core.proofs.Changing.{refused_design}
use Rattle.desk_core.proofs.present.Present.replace.Goals as goal

pub returns-in-Err-clause-ok : goal.returns-in-Err-clause-ok
returns-in-Err-clause-ok c = λ kept.
    refused_design (state_with kept c.args.self.now) c.args.design.modules c.in-Err.refused.fault c.check_reply.result c.in-Err.ensures.first c.check_reply.ensures.memory c.check_reply.ensures.value
