-- Traits in a row of numbers.
use Rattle.std.specs.Prelude.{ℕ, suc, List, [], ◌∷◌, ◌++◌, length, map, flat_map}
use Rattle.rtl_bits.specs.declared.bit.Bit.{Bit}
use Rattle.rtl_sig.specs.declared.sig.SigBit.{SigBit}
use Rattle.rtl_sig.specs.declared.sig.SigBit.TheVariants.{Fixed, Wire as OnWire}
use Rattle.rtl_ir.specs.declared.wire.Wire.{Wire}
use Rattle.opt_merge.specs.Traits.{Traits, bit_number}

-- a list of numbers behind its length
abbrev pub sized : List ℕ → List ℕ
sized numbers = length numbers ∷ numbers

-- a bit of a signal as two numbers
abbrev pub place_numbers : SigBit → List ℕ
place_numbers (Fixed b) = 0 ∷ bit_number b ∷ []
place_numbers (OnWire b) = suc b.wire ∷ b.at ∷ []

-- a signal behind its length
abbrev pub signal_numbers : List SigBit → List ℕ
signal_numbers signal = length signal ∷ flat_map place_numbers signal

-- bits behind their number
abbrev pub bits_numbers : List Bit → List ℕ
bits_numbers bits = sized (map bit_number bits)

-- lists of numbers behind their number, each behind its length
abbrev pub lists_numbers : List (List ℕ) → List ℕ
lists_numbers lists = length lists ∷ flat_map sized lists

-- signals behind their number
abbrev pub signals_numbers : List (List SigBit) → List ℕ
signals_numbers signals = length signals ∷ flat_map signal_numbers signals

-- traits, each list behind its length
abbrev pub row_of : Traits → List ℕ
row_of t = t.width ∷ ((sized t.type ++ lists_numbers t.params) ++ signals_numbers t.inputs) ++ bits_numbers t.starts
