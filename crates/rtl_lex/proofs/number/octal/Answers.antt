use Rattle.std.proofs.Common.{arith}
use Rattle.rtl_lex.proofs.Digits.{octal_stays}
use Rattle.rtl_lex.proofs.number.octal.Goals as goal

pub returns-then-number : goal.returns-then-number
returns-then-number c = octal_stays _ _ _ _ c.loop-digit-test.true c.loop-digit.invariant.is (omega arith)
