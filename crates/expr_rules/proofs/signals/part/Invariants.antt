use Rattle.std.proofs.Common.{◌≡◌}
use Rattle.expr_rules.specs.Signals.{part_of}
use Rattle.expr_rules.proofs.signals.part.Given as goal

-- the part so far
abbrev pub invariant-loop-at : goal.invariant-loop-at
invariant-loop-at l = l.part ≡ part_of l.word l.offset l.at
