-- How constants are written.
use Rattle.std.specs.Prelude.{ℕ, ◌+◌, ◌/◌, ◌%◌, ◌==◌, nat_le, Bool, true, false, ◌&&◌, List, [], ◌∷◌, ◌++◌, length, map, reverse, if◌then◌else◌}
use Rattle.std.specs.List.{flat_map}
use Rattle.std.specs.Fmt.{decimal, signed_decimal}
use Rattle.rtl_bits.specs.declared.bit.Bit.{Bit}
use Rattle.rtl_bits.specs.declared.bit.Bit.TheVariants.{S0, S1, X, Z, M, Dash}
use Rattle.rtl_ir.specs.declared.value.Value.{Value}
use Rattle.rtl_ir.specs.declared.value.Value.TheVariants as values

-- the letter of a bit: one of 0 1 x z m -
abbrev pub bit_letter : Bit → ℕ
bit_letter S0 = 48
bit_letter S1 = 49
bit_letter X = 120
bit_letter Z = 122
bit_letter M = 109
bit_letter Dash = 45

-- the bits of a value, the top one first
abbrev pub letters_of : List Bit → List ℕ
letters_of bits = map bit_letter (reverse bits)

-- the mark of a signed value
abbrev pub sign_mark : Bool → List ℕ
sign_mark true = 115 ∷ []
sign_mark false = []

-- a value: its width, a quote, its s where it has one, and each of its bits
unfoldable pub bits_text : List Bit → Bool → List ℕ
bits_text bits signed = decimal (length bits) ++ 39 ∷ sign_mark signed ++ letters_of bits

-- a byte as three octal digits behind a backslash
abbrev pub octal : ℕ → List ℕ
octal c = 92 ∷ (48 + c / 64) ∷ (48 + c / 8 % 8) ∷ (48 + c % 8) ∷ []

-- a character of a string: a quote and a backslash get a backslash, LF is \n, tab is \t, and every
-- other byte outside 32 to 126 is three octal digits
abbrev pub escaped : ℕ → List ℕ
escaped c = if c == 34 then 92 ∷ 34 ∷ []
    else if c == 92 then 92 ∷ 92 ∷ []
    else if c == 10 then 92 ∷ 110 ∷ []
    else if c == 9 then 92 ∷ 116 ∷ []
    else if nat_le 32 c && nat_le c 126 then c ∷ []
    else octal c

-- a string in its quotes
unfoldable pub string_text : List ℕ → List ℕ
string_text chars = 34 ∷ flat_map escaped chars ++ 34 ∷ []

-- a constant in its form
unfoldable pub value_text : Value → List ℕ
value_text (values.Bits bits signed) = bits_text bits signed
value_text (values.Int n) = signed_decimal n
value_text (values.Chars chars) = string_text chars
