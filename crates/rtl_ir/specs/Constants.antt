-- The bits that a constant stands for.
use Rattle.std.specs.Prelude.{ℕ, ◌+◌, ◌-◌, ◌^◌, ℤ, pos, negsuc, List, reverse, flat_map}
use Rattle.rtl_bits.specs.declared.bit.Bit.{Bit}
use Rattle.rtl_bits.specs.Numbers.{bits_of}
use Rattle.rtl_ir.specs.declared.value.Value.{Value}
use Rattle.rtl_ir.specs.declared.value.Value.TheVariants.{Bits, Int, Chars}

-- an integer as a number of 32 bits, in two's complement
abbrev pub unsigned_of : ℤ → ℕ
unsigned_of (pos n) = n
unsigned_of (negsuc n) = 2 ^ 32 - (n + 1)

-- so many low bits of a number, bit 0 first
unfoldable pub low_bits : ℕ → ℕ → List Bit
low_bits n width = bits_of n width

-- the bits of a constant: an integer has 32, a string 8 for each character with the first one on top
abbrev pub value_bits : Value → List Bit
value_bits (Bits bits signed) = bits
value_bits (Int n) = low_bits (unsigned_of n) 32
value_bits (Chars text) = flat_map (λ c. low_bits c 8) (reverse text)
