use Rattle.desk_core.specs.Results.{outcomes_of}
use Rattle.desk_core.proofs.Simulating.{trace_told}
use Rattle.desk_core.proofs.simulate.trace_reply.Goals as goal

pub returns-in-Built : goal.returns-in-Built
returns-in-Built c = record {
  value =
      trace_told c.args.order c.args.at c.in-Built.words c.args.stimulus.now c.args.told (outcomes_of c.args.design.now.design.modules c.args.found.now) c.traced.result c.in-Built.is
      c.traced.ensures.value;
}
