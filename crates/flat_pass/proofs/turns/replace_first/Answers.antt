use Rattle.std.proofs.Common.{◌≡◌, ◌∙◌, ap, sym, subst, rules, Some, false}
use Rattle.flat_pass.specs.Flat.{child_of, is_within, replaced}
use Rattle.flat_pass.specs.Grown.{TakesFirst, built}
use Rattle.flat_pass.proofs.Turning.{turn_goes, turn_none, turn_over}
use Rattle.flat_pass.proofs.turns.replace_first.Goals as goal

pub returns-in_err-replace_one-in-Some-clause-over : goal.returns-in_err-replace_one-in-Some-clause-over
returns-in_err-replace_one-in-Some-clause-over c = λ n below are e.
    let took = subst (TakesFirst (built c.args.grown.now) (built c.take_first.new.self)) c.in-Some.is c.in_ok-instance.ensures.value in
    let over = c.replace_one.ensures.over below are (search (rules, e, c.from_residual-in_err-replace_one-in-Some.ensures)) in
    turn_over n below (built c.args.grown.now) (c.in-Some.instance, (built c.take_first.new.self).body.cells) took.0 (subst (λ z. is_within (replaced (child_of below c.in-Some.instance.kind_name) c.in-Some.instance z) ≡ false) took.1 over)

pub returns-in_ok-replace_one-in-Some-clause-one : goal.returns-in_ok-replace_one-in-Some-clause-one
returns-in_ok-replace_one-in-Some-clause-one c = λ n below are.
    let took = subst (TakesFirst (built c.args.grown.now) (built c.take_first.new.self)) c.in-Some.is c.in_ok-instance.ensures.value in
    turn_goes n below (built c.args.grown.now) (built c.replace_one.new.grown) (c.in-Some.instance, (built c.take_first.new.self).body.cells) took.0 (c.in_ok-replace_one-in-Some.ensures.exact below are ∙ ap (λ z. replaced (child_of below c.in-Some.instance.kind_name) c.in-Some.instance z) took.1) c.in_ok-replace_one-in-Some.ensures.within

pub returns-in-None-clause-none : goal.returns-in-None-clause-none
returns-in-None-clause-none c = λ n below.
    let took = subst (TakesFirst (built c.args.grown.now) (built c.take_first.new.self)) c.in-None.is c.in_ok-instance.ensures.value in
    turn_none n below (built c.args.grown.now) took.0 ∙ ap (λ z. Some z.body) (sym took.1)
