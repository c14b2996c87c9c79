use Rattle.std.proofs.Common.{◌≡◌, length, max}
use Rattle.cell_word.specs.Words.{word_of}
use Rattle.cell_word.specs.Distances.{read_by}
use Rattle.cell_word.proofs.shift.moved.Given as goal

-- the word so far
abbrev pub invariant-loop-at : goal.invariant-loop-at
invariant-loop-at l =
    l.bits ≡ word_of (read_by l.kind l.signed l.a (max (length l.a) l.width) l.distance) l.at
