use Rattle.std.proofs.Common.{◌≡◌, ◌∷◌, replicate}
use Rattle.rtl_bits.specs.declared.bit.Bit.TheVariants.{S0}
use Rattle.cell_word.proofs.words.one_bit.Given as goal

-- the word so far
abbrev pub invariant-loop : goal.invariant-loop
invariant-loop l = l.bits ≡ l.fn.bit ∷ replicate l.counter S0
