use Rattle.std.proofs.Common.{◌≡◌, map}
use Rattle.std.specs.List.{range_with_len}
use Rattle.expr_rules.specs.Rules.Mux.{arm_bit}
use Rattle.expr_rules.proofs.rules.mux.arm_bits.Given as goal

-- the bits so far
abbrev pub invariant-loop-at : goal.invariant-loop-at
invariant-loop-at l = l.bits ≡ map (arm_bit l.o) (range_with_len 0 l.at)
