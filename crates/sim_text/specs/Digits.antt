-- The digits of stimulus and trace lines.
use Rattle.std.specs.Prelude.{ℕ, ◌==◌, Bool, ◌||◌, if◌then◌else◌, List, [], ◌∷◌}
use Rattle.rtl_bits.specs.declared.bit.Bit.{Bit}
use Rattle.rtl_bits.specs.declared.bit.Bit.TheVariants.{S0, S1, X, Z, M, Dash}

-- the digit of a bit: one of 0 1 x z; m and - are written as x
abbrev pub digit_of : Bit → ℕ
digit_of S0 = 48
digit_of S1 = 49
digit_of Z = 122
digit_of b = 120

-- a bit has a digit of its own: it is 0, 1, x or z
abbrev pub HasDigit : Bit → Type 0
HasDigit M = ⊥
HasDigit Dash = ⊥
HasDigit b = Unit {0}

-- each of these bits has one
abbrev pub AreDigits : List Bit → Type 0
AreDigits [] = Unit {0}
AreDigits (b ∷ bits) = HasDigit b × AreDigits bits

-- a character is one of the digits 0 1 x z
unfoldable pub is_digit : ℕ → Bool
is_digit c = (c == 48) || ((c == 49) || ((c == 120) || (c == 122)))

-- the bit of a digit
unfoldable pub bit_of : ℕ → Bit
bit_of c = if c == 48 then S0 else if c == 49 then S1 else if c == 122 then Z else X
