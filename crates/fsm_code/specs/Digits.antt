-- The digits of numbers.
use Rattle.std.specs.Prelude.{ℕ, ◌==◌, Bool, List, slice_index_or}
use Rattle.rtl_bits.specs.declared.bit.Bit.{Bit}
use Rattle.rtl_bits.specs.declared.bit.Bit.TheVariants.{S0}
use Rattle.rtl_bits.specs.Numbers.{digit_of, number_of}

-- whether bits stand for one number
abbrev pub same_number : List Bit → List Bit → Bool
same_number a b = number_of a == number_of b

-- what the bit at a place adds there; past the end nothing
abbrev pub digit_at : List Bit → ℕ → ℕ
digit_at bits at = digit_of (slice_index_or bits at S0)
