use Rattle.std.proofs.Common.{◌≡◌}
use Rattle.cell_word.specs.Folds.{all_of, agreeing_of}
use Rattle.cell_word.proofs.folds.equal.Given as goal

-- whether the words agree so far
abbrev pub invariant-loop-at : goal.invariant-loop-at
invariant-loop-at l = l.equal ≡ all_of (agreeing_of l.signed l.a l.b l.at)
