-- Integers by sign and size.
use Rattle.std.specs.Prelude.{◌≡◌, ◌%◌, ◌^◌, ◌<◌, ℕ, Bool, true, if◌then◌else◌, ℤ, pos, neg_ℤ, List}
use Rattle.rtl_bits.specs.declared.bit.Bit.{Bit}
use Rattle.rtl_bits.specs.Knowledge.{all_known}
use Rattle.cell_word.specs.Integers.{integer_in}
use Rattle.cell_word.specs.declared.integer.Integer.{Integer}

-- the integer of a sign and a size
abbrev pub signed_of : Bool → ℕ → ℤ
signed_of negative size = if negative then neg_ℤ (pos size) else pos size

-- the integer that a sign and a size stand for
abbrev pub integer_value : Integer → ℤ
integer_value i = signed_of i.negative i.size

-- a negative integer is below 0
abbrev pub IsProper : Integer → Type 0
IsProper i = i.negative ≡ true → 0 < i.size

-- a sign and a size stand for an integer, but for multiples of 2 to the 128: there is a size of that
-- residue which, with the sign, is the integer's
pub record StandsFor (i : Integer) (z : ℤ) : Type 0 where
  pub size : ℕ
  pub residue : size % 2 ^ 128 ≡ i.size
  pub value : signed_of i.negative size ≡ z

-- an integer was read from known bits
pub record IsRead (signed : Bool) (bits : List Bit) (i : Integer) : Type 0 where
  pub known : all_known bits ≡ true
  pub proper : IsProper i
  pub value : integer_value i ≡ integer_in signed bits
