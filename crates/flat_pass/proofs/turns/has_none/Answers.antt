use Rattle.std.proofs.Common.{◌∙◌, ap, sym, subst, Some}
use Rattle.flat_pass.specs.Grown.{TakesFirst, built}
use Rattle.flat_pass.proofs.Turning.{turn_due, turn_none}
use Rattle.flat_pass.proofs.turns.has_none.Goals as goal

pub returns-in-Some-clause-over : goal.returns-in-Some-clause-over
returns-in-Some-clause-over c = λ below e.
    let took = subst (TakesFirst (built c.args.grown.now) (built c.take_first.new.self)) c.in-Some.is c.in_ok-_instance.ensures.value in
    turn_due below (built c.args.grown.now) _ took.0

pub returns-in-None-clause-exact : goal.returns-in-None-clause-exact
returns-in-None-clause-exact c = λ below.
    let took = subst (TakesFirst (built c.args.grown.now) (built c.take_first.new.self)) c.in-None.is c.in_ok-_instance.ensures.value in
    turn_none 0 below (built c.args.grown.now) took.0 ∙ ap (λ z. Some z.body) (sym took.1)
