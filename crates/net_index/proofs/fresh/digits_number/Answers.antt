use Rattle.std.proofs.Common.{arith}
use Rattle.net_index.proofs.FreshNumbers.{digits_so_far}
use Rattle.net_index.proofs.fresh.digits_number.Goals as goal

pub overflow_mul-number : goal.overflow_mul-number
overflow_mul-number c =
    omega (arith, digits_so_far c.args.digits.now c.loop-digit.digit-index c.loop-digit.number 0 c.loop-digit-test.true c.requires.digits c.requires.few c.loop-digit.invariant)

pub overflow_add-number : goal.overflow_add-number
overflow_add-number c =
    omega (arith, c.from.ensures, c.saturating_sub.ensures, digits_so_far c.args.digits.now c.loop-digit.digit-index c.loop-digit.number 0 c.loop-digit-test.true c.requires.digits c.requires.few c.loop-digit.invariant)
