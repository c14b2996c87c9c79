-- The cells that move a word by a number of places.
use Rattle.std.specs.Prelude.{ℕ, Bool, if◌then◌else◌, nat_lt, max, ℤ, pos, negsuc, ◌+ℤ◌, neg_ℤ, List, length, slice_index_or}
use Rattle.rtl_bits.specs.declared.bit.Bit.{Bit}
use Rattle.rtl_bits.specs.declared.bit.Bit.TheVariants.{S0, X}
use Rattle.rtl_bits.specs.Knowledge.{all_known}
use Rattle.rtl_bits.specs.Tables.{seen_of}
use Rattle.rtl_bits.specs.Numbers.{number_of}
use Rattle.cell_types.specs.declared.word.ShiftKind.{ShiftKind}
use Rattle.cell_types.specs.declared.word.ShiftKind.TheVariants.{Shl, Sshl, Shr, Sshr, Shift, Shiftx}
use Rattle.cell_word.specs.Words.{word_of, unknown_of, extended_at}
use Rattle.cell_word.specs.Integers.{integer_in}

-- how far the places that are read lie above those that are written: `$shl` and `$sshl` read below
abbrev pub distance_of : ShiftKind → Bool → List Bit → ℤ
distance_of Shl signed b = neg_ℤ (pos (number_of b))
distance_of Sshl signed b = neg_ℤ (pos (number_of b))
distance_of Shr signed b = pos (number_of b)
distance_of Sshr signed b = pos (number_of b)
distance_of Shift signed b = integer_in signed b
distance_of Shiftx signed b = integer_in signed b

-- what a kind reads below place 0
abbrev pub below_of : ShiftKind → Bit
below_of Shiftx = X
below_of kind = S0

-- what a kind reads at a place of the operand, extended to a width: past that width 0, but
-- `$sshr` goes on with the sign, and `$shiftx` has x outside the operand
abbrev pub read_at : ShiftKind → Bool → List Bit → ℕ → ℕ → Bit
read_at Sshr signed a width at = extended_at signed a at
read_at Shiftx signed a width at = slice_index_or a at X
read_at kind signed a width at = if nat_lt at width then extended_at signed a at else S0

-- what a kind reads at a place that may lie below 0
abbrev pub read_of : ShiftKind → Bool → List Bit → ℕ → ℤ → Bit
read_of kind signed a width (pos at) = seen_of (read_at kind signed a width at)
read_of kind signed a width (negsuc n) = below_of kind

-- the bits that are read at a distance
abbrev pub moved_of : ShiftKind → Bool → List Bit → ℤ → ℕ → List Bit
moved_of kind signed a distance width =
    word_of (λ at. read_of kind signed a (max (length a) width) (pos at +ℤ distance)) width

-- the moved word, all x where a bit of B is unknown
abbrev pub shifted_of : ShiftKind → Bool → Bool → List Bit → List Bit → ℕ → List Bit
shifted_of kind a_signed b_signed a b width =
    if all_known b then moved_of kind a_signed a (distance_of kind b_signed b) width
    else unknown_of width
