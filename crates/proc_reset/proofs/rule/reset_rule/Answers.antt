use Rattle.std.proofs.Common.{◌∙◌}
use Rattle.proc_reset.proofs.rule.reset_rule.Goals as goal

pub returns : goal.returns
returns c = record {
  value = λ root bits are i. record {
    event = c.in_ok-event.ensures.value i;
    updates = (c.from_vec.ensures.value ∙ c.in_ok-updates.ensures.value root bits are) i;
    writes = c.make.ensures.value i;
  };
}
