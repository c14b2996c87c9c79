use Rattle.std.proofs.Common.{Some, ap, refl, sym, ◌∙◌}
use Rattle.net_alias.proofs.Learning.{learnt_are, second_known}
use Rattle.net_alias.proofs.aliases.Aliases.move_on.Goals as goal

pub returns-clause-step : goal.returns-clause-step
returns-clause-step c = λ all are.
    second_known c.args.self.now all c.args.bit c.in-To.next c.in-Some.second (sym c.in_ok-step.ensures.value ∙ ap Some c.in-To.is) (sym c.in-Some.ensures.value) are

pub returns-clause-keeps : goal.returns-clause-keeps
returns-clause-keeps c = λ all are.
    learnt_are c.args.self.now _ all c.args.bit c.in-To.next c.in-Some.second (sym c.in_ok-step.ensures.value ∙ ap Some c.in-To.is) (sym c.in-Some.ensures.value) c.learn.ensures.learnt refl are
