use Rattle.std.proofs.Common.{◌∙◌, ap}
use Rattle.net_model.specs.Proc.Reset.{with_reset}
use Rattle.proc_reset.proofs.process.level_rules.Goals as goal

pub returns : goal.returns
returns c = record {
  value = λ root bits are.
      c.from_vec.ensures.value ∙ c.in_ok-made.ensures.value ∙ ap (λ r. with_reset c.args.reset.bit r c.args.rules.now) (c.in_ok-rule.ensures.value root bits are);
}
