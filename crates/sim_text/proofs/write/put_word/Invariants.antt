use Rattle.std.proofs.Common.{◌≡◌, ◌++◌, map}
use Rattle.sim_text.specs.Digits.{digit_of}
use Rattle.sim_text.proofs.write.put_word.Given as goal

-- the digits of the bits so far are written
abbrev pub invariant-loop-bit : goal.invariant-loop-bit
invariant-loop-bit l = l.out ≡ l.fn.out ++ map (λ b. digit_of b.now) l.yielded
