-- Bits of wires and constants in signals.
use Rattle.std.specs.Prelude.{ℕ, Bool, true, false, ◌&&◌, ◌==◌, List, [], ◌∷◌, map}
use Rattle.std.specs.List.{list_any, list_all, range_with_len}
use Rattle.std.specs.Cmp.Lexicographic.{pointwise}
use Rattle.rtl_bits.specs.declared.bit.Bit.{Bit}
use Rattle.rtl_bits.specs.declared.bit.Bit.TheVariants.{S0, S1, X, Z, M, Dash}
use Rattle.rtl_sig.specs.declared.sig.SigBit.{SigBit}
use Rattle.rtl_sig.specs.declared.sig.SigBit.TheVariants as sig
use Rattle.rtl_sig.specs.declared.sig.WireBit.{WireBit}

-- two bits are one: the same place of the same wire
abbrev pub same_bit : WireBit → WireBit → Bool
same_bit a b = (a.wire == b.wire) && (a.at == b.at)

-- the bit is among these
abbrev pub has_bit : List WireBit → WireBit → Bool
has_bit bits b = list_any (same_bit b) bits

-- a place of a signal holds a constant
abbrev pub is_constant : SigBit → Bool
is_constant (sig.Fixed b) = true
is_constant (sig.Wire b) = false

-- a signal has a constant at some place
abbrev pub has_constant : List SigBit → Bool
has_constant bits = list_any is_constant bits

-- a signal is constants alone
abbrev pub is_all_constant : List SigBit → Bool
is_all_constant bits = list_all is_constant bits

-- the bits of wires in a signal, in its order
abbrev pub wire_bits : List SigBit → List WireBit
wire_bits [] = []
wire_bits (sig.Fixed b ∷ bits) = wire_bits bits
wire_bits (sig.Wire b ∷ bits) = b ∷ wire_bits bits

-- the bits of the wire at a place of the list of wires, which has this width
abbrev pub bits_of_wire : ℕ → ℕ → List WireBit
bits_of_wire wire width = map (λ at. record { wire = wire; at = at }) (range_with_len 0 width)

-- two of the six values of a constant are one
abbrev pub same_value : Bit → Bit → Bool
same_value S0 S0 = true
same_value S1 S1 = true
same_value X X = true
same_value Z Z = true
same_value M M = true
same_value Dash Dash = true
same_value a b = false

-- two places hold one bit, or one constant
abbrev pub same_place : SigBit → SigBit → Bool
same_place (sig.Fixed a) (sig.Fixed b) = same_value a b
same_place (sig.Wire a) (sig.Wire b) = same_bit a b
same_place a b = false

-- two signals are one, place by place
abbrev pub same_signal : List SigBit → List SigBit → Bool
same_signal a b = pointwise same_place a b

-- a constant as the value that it is, any other bit as x
abbrev pub constant_of : SigBit → Bit
constant_of (sig.Fixed b) = b
constant_of (sig.Wire b) = X
