-- The cells that work bit by bit.
use Rattle.std.specs.Prelude.{ℕ, Bool, List}
use Rattle.rtl_bits.specs.declared.bit.Bit.{Bit}
use Rattle.rtl_bits.specs.Tables.{seen_of, not_of, and_of, or_of, xor_of}
use Rattle.cell_types.specs.declared.word.BitwiseKind.{BitwiseKind}
use Rattle.cell_types.specs.declared.word.BitwiseKind.TheVariants.{And, Or, Xor, Xnor}
use Rattle.cell_word.specs.Words.{word_of, extended_at}

-- `$not`: the inverse of each bit of the extended word
abbrev pub inverse_of : Bool → List Bit → ℕ → List Bit
inverse_of signed a width = word_of (λ at. not_of (extended_at signed a at)) width

-- `$pos`: the extended word
abbrev pub itself_of : Bool → List Bit → ℕ → List Bit
itself_of signed a width = word_of (λ at. seen_of (extended_at signed a at)) width

-- what a kind makes of two bits
abbrev pub bit_by : BitwiseKind → Bit → Bit → Bit
bit_by And a b = and_of a b
bit_by Or a b = or_of a b
bit_by Xor a b = xor_of a b
bit_by Xnor a b = not_of (xor_of a b)

-- `$and`, `$or`, `$xor`, `$xnor`: what the kind makes of the two extended words, bit by bit
abbrev pub bitwise_of : BitwiseKind → Bool → List Bit → List Bit → ℕ → List Bit
bitwise_of kind signed a b width =
    word_of (λ at. bit_by kind (extended_at signed a at) (extended_at signed b at)) width
