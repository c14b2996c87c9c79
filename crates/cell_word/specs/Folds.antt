-- The cells that make one bit of all bits of a word or of two.
use Rattle.std.specs.Prelude.{ℕ, Bool, List, length, max}
use Rattle.std.specs.List.{fold}
use Rattle.rtl_bits.specs.declared.bit.Bit.{Bit}
use Rattle.rtl_bits.specs.declared.bit.Bit.TheVariants.{S0, S1}
use Rattle.rtl_bits.specs.Tables.{not_of, and_of, or_of, xor_of}
use Rattle.cell_types.specs.declared.word.FoldKind.{FoldKind}
use Rattle.cell_types.specs.declared.word.FoldKind.TheVariants as Fold
use Rattle.cell_types.specs.declared.word.LogicKind.{LogicKind}
use Rattle.cell_types.specs.declared.word.LogicKind.TheVariants as Logic
use Rattle.cell_types.specs.declared.word.EqualKind.{EqualKind}
use Rattle.cell_types.specs.declared.word.EqualKind.TheVariants.{Eq, Ne}
use Rattle.cell_word.specs.Words.{word_of, extended_at}

-- whether all bits are 1
abbrev pub all_of : List Bit → Bit
all_of bits = fold and_of S1 bits

-- whether one of the bits is 1
abbrev pub any_of : List Bit → Bit
any_of bits = fold or_of S0 bits

-- whether an odd number of the bits is 1
abbrev pub odd_of : List Bit → Bit
odd_of bits = fold xor_of S0 bits

-- the bit that a kind makes of a word
abbrev pub folded_of : FoldKind → List Bit → Bit
folded_of Fold.And a = all_of a
folded_of Fold.Or a = any_of a
folded_of Fold.Xor a = odd_of a
folded_of Fold.Xnor a = not_of (odd_of a)
folded_of Fold.Bool a = any_of a
folded_of Fold.LogicNot a = not_of (any_of a)

-- the bit that a kind makes of two words, each of which counts as true where one of its bits is 1
abbrev pub logic_of : LogicKind → List Bit → List Bit → Bit
logic_of Logic.And a b = and_of (any_of a) (any_of b)
logic_of Logic.Or a b = or_of (any_of a) (any_of b)

-- the places at which two extended words agree
abbrev pub agreeing_of : Bool → List Bit → List Bit → ℕ → List Bit
agreeing_of signed a b width =
    word_of (λ at. not_of (xor_of (extended_at signed a at) (extended_at signed b at))) width

-- whether two words agree at all places, extended to the greater width: 0 where two known bits
-- differ, 1 where all bits are known and equal, else x
abbrev pub equal_of : Bool → List Bit → List Bit → Bit
equal_of signed a b = all_of (agreeing_of signed a b (max (length a) (length b)))

-- the bit of `$eq`, and its inverse
abbrev pub equality_of : EqualKind → Bool → List Bit → List Bit → Bit
equality_of Eq signed a b = equal_of signed a b
equality_of Ne signed a b = not_of (equal_of signed a b)
