-- Words of constants and of bits of wires, and the tests that the rules make.
use Rattle.std.specs.Prelude.{ℕ, ◌+◌, Bool, true, false, List, [], ◌∷◌, map, replicate, slice_index_or}
use Rattle.std.specs.List.{range_with_len}
use Rattle.rtl_bits.specs.declared.bit.Bit.{Bit}
use Rattle.rtl_bits.specs.declared.bit.Bit.TheVariants.{S0, S1, X}
use Rattle.rtl_bits.specs.Knowledge.{is_known}
use Rattle.rtl_sig.specs.declared.sig.SigBit.{SigBit}
use Rattle.rtl_sig.specs.declared.sig.SigBit.TheVariants.{Fixed, Wire as OnWire}
use Rattle.rtl_ir.specs.Signals.{constant_of, same_signal}

-- the bits of a word, those that are not constant as x
abbrev pub constants_of : List SigBit → List Bit
constants_of word = map constant_of word

-- a bit is the constant 0
abbrev pub is_zero : SigBit → Bool
is_zero (Fixed S0) = true
is_zero b = false

-- a bit is the constant 1
abbrev pub is_one : SigBit → Bool
is_one (Fixed S1) = true
is_one b = false

-- a bit is the constant 0 or 1
abbrev pub is_known_constant : SigBit → Bool
is_known_constant (Fixed b) = is_known b
is_known_constant (OnWire b) = false

-- a bit is a constant that is neither
abbrev pub is_unknown_constant : SigBit → Bool
is_unknown_constant (Fixed S0) = false
is_unknown_constant (Fixed S1) = false
is_unknown_constant (Fixed b) = true
is_unknown_constant (OnWire b) = false

-- a word is this one constant
abbrev pub is_bit : Bit → List SigBit → Bool
is_bit b word = same_signal word (Fixed b ∷ [])

-- the lowest bit of a word
abbrev pub first_bit : List SigBit → SigBit
first_bit word = slice_index_or word 0 (Fixed X)

-- a word of one constant
abbrev pub filled : ℕ → Bit → List SigBit
filled width b = replicate width (Fixed b)

-- the bits of a word from a place on
abbrev pub part_of : List SigBit → ℕ → ℕ → List SigBit
part_of word offset width = map (λ at. slice_index_or word (offset + at) (Fixed X)) (range_with_len 0 width)
