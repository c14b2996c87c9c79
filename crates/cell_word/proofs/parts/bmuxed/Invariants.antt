use Rattle.std.proofs.Common.{◌≡◌}
use Rattle.cell_word.specs.Words.{word_of}
use Rattle.cell_word.specs.Parts.{bmuxed_bit}
use Rattle.cell_word.proofs.parts.bmuxed.Given as goal

-- the word so far
abbrev pub invariant-loop-at : goal.invariant-loop-at
invariant-loop-at l = l.bits ≡ word_of (bmuxed_bit l.a l.s l.width) l.at
