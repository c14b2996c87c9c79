use Rattle.std.proofs.Common.{◌≡◌, ◌+◌, ◌-◌, ◌^◌, ◌∙◌, Some, ap, arith, drop, subst, sym}
use Rattle.sim_eval.specs.Fetched.{IsNumber, known_digit}
use Rattle.sim_eval.specs.Numbers.{number_word}
use Rattle.sim_eval.proofs.Reading.{number_next, unknown_at}
use Rattle.sim_eval.proofs.fetched.number_of.Goals as goal

pub loop-at-preserved : goal.loop-at-preserved
loop-at-preserved c =
    let values = c.args.values.now in
    let points = c.args.address.now in
    let at = c.loop-at.at in
    let here : at ≡ (at - 1) + 1 = omega (arith, c.loop-at-test.true) in
    number_next (2 ^ 100) values points (at - 1) _ c.loop-at.number c.in_ok-digit.digit _ (omega (arith, c.loop-at.auto.at))
    (sym (c.digit_of.ensures.value ∙ ap known_digit c.read.ensures.value) ∙ c.in_ok-digit.was)
    (subst (λ n. IsNumber (2 ^ 100) (number_word values (drop n points)) (Some c.loop-at.number)) here c.loop-at.invariant)
    c.min-number.ensures

pub returns-in_err-digit : goal.returns-in_err-digit
returns-in_err-digit c = record {
  value =
      subst (IsNumber (2 ^ 100) (number_word c.args.values.now c.args.address.now)) (sym c.from_residual.ensures)
      (unknown_at c.args.values.now c.args.address.now (c.loop-at.at - 1) _ (omega (arith, c.loop-at.auto.at, c.loop-at-test.true))
      (sym (c.digit_of.ensures.value ∙ ap known_digit c.read.ensures.value) ∙ c.in_err-digit.was));
}
