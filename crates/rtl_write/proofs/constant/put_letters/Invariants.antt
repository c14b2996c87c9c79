use Rattle.std.proofs.Common.{◌≡◌, ◌++◌, map}
use Rattle.rtl_write.specs.Constant.{bit_letter}
use Rattle.rtl_write.proofs.constant.put_letters.Given as goal

-- the letters of the bits so far are written
abbrev pub invariant-loop-bit : goal.invariant-loop-bit
invariant-loop-bit l = l.out ≡ l.fn.out ++ map (λ b. bit_letter b.now) l.yielded
