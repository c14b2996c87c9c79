use Rattle.proc_sync.proofs.Exact.{one_level, one_steps}
use Rattle.proc_sync.proofs.process.one_form.Goals as goal

pub returns-in-Some-level_trigger : goal.returns-in-Some-level_trigger
returns-in-Some-level_trigger c = record {
  value = λ lines b. one_level c.args.event.now lines b c.in-Some-level_trigger.level c.in_default.ensures.value c.in-Some-level_trigger.ensures.value;
}

pub returns-in-Global : goal.returns-in-Global
returns-in-Global c = record {
  value = λ lines b. one_steps c.args.event.now lines b c.in_default.ensures.value c.in_default-level_trigger.ensures.value c.in-Global.is;
}
