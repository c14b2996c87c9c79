-- Words as integers, and integers as words.
use Rattle.std.specs.Prelude.{ℕ, Bool, if◌then◌else◌, ℤ, pos, negsuc, List, map}
use Rattle.rtl_bits.specs.declared.bit.Bit.{Bit}
use Rattle.rtl_bits.specs.Tables.{not_of}
use Rattle.rtl_bits.specs.Numbers.{number_of, integer_of, bits_of}

-- the integer that known bits stand for, in two's complement where they are signed
abbrev pub integer_in : Bool → List Bit → ℤ
integer_in signed bits = if signed then integer_of bits else pos (number_of bits)

-- the low bits of an integer in two's complement: those of -1 - n are the inverse of those of n
abbrev pub integer_bits : ℤ → ℕ → List Bit
integer_bits (pos n) width = bits_of n width
integer_bits (negsuc n) width = map not_of (bits_of n width)
