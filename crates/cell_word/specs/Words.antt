-- Words: lists of bits, the least significant first.
use Rattle.std.specs.Prelude.{ℕ, ◌-◌, Bool, if◌then◌else◌, List, ◌∷◌, map, replicate, slice_index_or}
use Rattle.std.specs.List.{range_with_len}
use Rattle.rtl_bits.specs.declared.bit.Bit.{Bit}
use Rattle.rtl_bits.specs.declared.bit.Bit.TheVariants.{S0, X}
use Rattle.rtl_bits.specs.Numbers.{top_of}

-- the word of a width whose bit at each place is what a function gives
abbrev pub word_of : (ℕ → Bit) → ℕ → List Bit
word_of f width = map f (range_with_len 0 width)

-- the word of a width whose bits are all x
abbrev pub unknown_of : ℕ → List Bit
unknown_of width = replicate width X

-- the word of a width whose lowest bit is this one, and whose other bits are 0
abbrev pub one_bit_of : Bit → ℕ → List Bit
one_bit_of b width = b ∷ replicate (width - 1) S0

-- what a word is filled up with: its top bit where it is signed, else 0
abbrev pub fill_of : Bool → List Bit → Bit
fill_of signed bits = if signed then top_of bits else S0

-- the bit of a word at any place, where the word is cut or filled up as it has to be
abbrev pub extended_at : Bool → List Bit → ℕ → Bit
extended_at signed bits at = slice_index_or bits at (fill_of signed bits)
