use Rattle.std.proofs.Common.{◌≡◌, slice_index_or}
use Rattle.rtl_bits.specs.Tables.{mux_of}
use Rattle.rtl_bits.specs.declared.bit.Bit.TheVariants.{X}
use Rattle.cell_word.specs.Words.{word_of}
use Rattle.cell_word.proofs.choice.bwmuxed.Given as goal

-- the word so far
abbrev pub invariant-loop-at : goal.invariant-loop-at
invariant-loop-at l =
    l.bits ≡ word_of (λ at. mux_of (slice_index_or l.a at X) (slice_index_or l.b at X) (slice_index_or l.s at X)) l.at
