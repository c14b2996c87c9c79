use Rattle.std.proofs.Common.{◌≡◌, ◌+◌, drop}
use Rattle.std.specs.Option.{option_map}
use Rattle.expr_rules.specs.Rules.Arith.{power_of}
use Rattle.expr_rules.proofs.rules.arith.power_of.Given as goal

-- the place is that of what is left, further up
abbrev pub invariant-loop-at : goal.invariant-loop-at
invariant-loop-at l = power_of l.word ≡ option_map (λ places. l.at + places) (power_of (drop l.at l.word))
