use Rattle.std.proofs.Common.{refl, sym, ◌∙◌, ap, Some, cond}
use Rattle.rtl_ir.specs.Signals.{same_bit}
use Rattle.net_alias.specs.Aliases.{step_to}
use Rattle.net_alias.specs.StepTable.{at_bit}
use Rattle.net_alias.proofs.Joining.{joined_new, joined_old}
use Rattle.net_alias.proofs.aliases.Aliases.join.Goals as goal

pub returns-in-Some : goal.returns-in-Some
returns-in-Some c = record {
  ok = λ all are.
      joined_old c.end_of-end.new.self _ all c.args.bit c.args.source (c.end_of-end.ensures.keeps all are) c.in_ok-self.ensures.value c.in-Some.field-0 (sym c.in-Some.ensures.value) refl;
}

pub returns-in_ok-put-in-None : goal.returns-in_ok-put-in-None
returns-in_ok-put-in-None c = record {
  ok = λ all are.
      joined_new c.end_of-end.new.self _ all c.args.bit c.args.source (c.end_of-end.ensures.keeps all are) c.in_ok-self.ensures.value (sym c.in-None.ensures.value)
      (λ b. c.in_ok-put-in-None.ensures.ok b ∙ ap (λ s. cond (same_bit c.args.bit b) (Some s) (at_bit c.end_of-end.new.self.table b)) (c.first_step.ensures.value ∙ ap (step_to c.args.bit) (c.end_of-end.ensures.value all are)));
}
