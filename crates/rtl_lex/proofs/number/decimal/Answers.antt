use Rattle.std.proofs.Common.{arith}
use Rattle.rtl_lex.proofs.Digits.{decimal_stays}
use Rattle.rtl_lex.proofs.number.decimal.Goals as goal

pub returns-then-number : goal.returns-then-number
returns-then-number c = decimal_stays _ _ _ _ c.loop-digit-test.true c.loop-digit.invariant.is (omega arith)
