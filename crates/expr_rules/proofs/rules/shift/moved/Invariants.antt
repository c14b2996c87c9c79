use Rattle.std.proofs.Common.{◌≡◌, length, map, max}
use Rattle.std.specs.List.{range_with_len}
use Rattle.expr_rules.specs.Distances.{signal_by}
use Rattle.expr_rules.proofs.rules.shift.moved.Given as goal

-- the word so far
abbrev pub invariant-loop-at : goal.invariant-loop-at
invariant-loop-at l =
    l.bits ≡ map (signal_by l.kind l.signed l.a (max (length l.a) l.width) l.distance) (range_with_len 0 l.at)
