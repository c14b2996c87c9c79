-- Numbers by their digits.
use Rattle.std.proofs.Common.{arith}
use Rattle.fsm_code.proofs.Digits.{numbers_same}
use Rattle.fsm_code.proofs.numbers.same_number.Goals as goal

-- src/numbers.rt:35:1
pub returns : goal.returns
returns c =
    let as' = c.args.a.now in
    let bs = c.args.b.now in
    record { value = numbers_same as' bs c.loop-at.at (grind (arith, c.loop-at-test.false, c.loop-at.auto.at-end, c.max-at-end.ensures)) (grind (arith, c.loop-at-test.false, c.loop-at.auto.at-end, c.max-at-end.ensures)) c.loop-at.invariant }
