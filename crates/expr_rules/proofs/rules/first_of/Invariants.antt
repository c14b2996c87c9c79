use Rattle.std.proofs.Common.{◌≡◌, drop}
use Rattle.expr_rules.specs.Rules.{first_of}
use Rattle.expr_rules.proofs.rules.first_of.Given as goal

-- none of the rules so far fits
abbrev pub invariant-loop-rule : goal.invariant-loop-rule
invariant-loop-rule l = first_of l.rules l.shape l.operands ≡ first_of (drop l.rule-index l.rules) l.shape l.operands
