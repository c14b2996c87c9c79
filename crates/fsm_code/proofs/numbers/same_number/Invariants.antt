-- The digits so far are the same.
use Rattle.std.proofs.Common.{◌≡◌, ◌<◌, ℕ}
use Rattle.fsm_code.specs.Digits.{digit_at}
use Rattle.fsm_code.proofs.numbers.same_number.Given as goal

abbrev pub invariant-loop-at : goal.invariant-loop-at
invariant-loop-at l = (k : ℕ) → k < l.at → digit_at l.a k ≡ digit_at l.b k
