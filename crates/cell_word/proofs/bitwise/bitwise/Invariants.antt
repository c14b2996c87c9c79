use Rattle.std.proofs.Common.{◌≡◌}
use Rattle.cell_word.specs.Words.{word_of, extended_at}
use Rattle.cell_word.specs.Bitwise.{bit_by}
use Rattle.cell_word.proofs.bitwise.bitwise.Given as goal

-- the word so far
abbrev pub invariant-loop-at : goal.invariant-loop-at
invariant-loop-at l = l.bits ≡ word_of (λ at. bit_by l.kind (extended_at l.signed l.a at) (extended_at l.signed l.b at)) l.at
