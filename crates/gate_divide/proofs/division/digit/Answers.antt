use Rattle.std.proofs.Common.{rules}
use Rattle.gate_divide.proofs.Limits.{digit_over}
use Rattle.gate_divide.proofs.division.digit.Goals as goal

pub returns-in_err-total-clause-over : goal.returns-in_err-total-clause-over
returns-in_err-total-clause-over c e =
    digit_over c.args.bit c.args.rest.now c.args.divisor.now c.in_ok-wide.wide c.args.builder.now c.in_ok-wide.ensures.value
    (search (rules, c.less.ensures.over, e, c.from_residual-in_err-total.ensures))
