use Rattle.std.proofs.Common.{◌≡◌}
use Rattle.rtl_bits.specs.Tables.{seen_of}
use Rattle.cell_word.specs.Words.{word_of, extended_at}
use Rattle.cell_word.proofs.bitwise.itself.Given as goal

-- the word so far
abbrev pub invariant-loop-at : goal.invariant-loop-at
invariant-loop-at l = l.bits ≡ word_of (λ at. seen_of (extended_at l.signed l.a at)) l.at
