use Rattle.std.proofs.Common.{◌≡◌, ◌++◌, map}
use Rattle.sim_text.specs.Digits.{bit_of}
use Rattle.sim_text.proofs.read.push_word.Given as goal

-- the bits of the digits so far are put last
abbrev pub invariant-loop-digit : goal.invariant-loop-digit
invariant-loop-digit l = l.bits ≡ l.fn.bits ++ map (λ d. bit_of d.now) l.yielded
