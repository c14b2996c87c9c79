-- the digits of the numbers that lists of bits stand for
use Rattle.std.specs.Prelude.{ℕ, List, slice_index_or}
use Rattle.rtl_bits.specs.declared.bit.Bit.{Bit}
use Rattle.rtl_bits.specs.declared.bit.Bit.TheVariants.{S0}
use Rattle.rtl_bits.specs.Numbers.{digit_of}

-- the digit at a place, 0 past the end
abbrev pub digit_at : List Bit → ℕ → ℕ
digit_at bits at = digit_of (slice_index_or bits at S0)
