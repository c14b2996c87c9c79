-- Places of a list by signals.
use Rattle.std.specs.Prelude.{ℕ, ◌+◌, List, [], ◌∷◌, Option, flat_map}
use Rattle.std.specs.Global.{Vec}
use Rattle.std.specs.HashMap.{get_by}
use Rattle.std.specs.Str.{bytes_eq}
use Rattle.rtl_bits.specs.declared.bit.Bit.{Bit}
use Rattle.rtl_bits.specs.declared.bit.Bit.TheVariants.{S0, S1, X, Z, M, Dash}
use Rattle.rtl_sig.specs.declared.sig.SigBit.{SigBit}
use Rattle.rtl_sig.specs.declared.sig.SigBit.TheVariants.{Fixed, Wire as OnWire}
use Rattle.fsm_parts.specs.declared.signal_table.SignalTable.{SignalTable}

-- one of the six values as a number
abbrev pub bit_number : Bit → ℕ
bit_number S0 = 0
bit_number S1 = 1
bit_number X = 2
bit_number Z = 3
bit_number M = 4
bit_number Dash = 5

-- a bit of a signal as two numbers
abbrev pub place_numbers : SigBit → List ℕ
place_numbers (Fixed b) = 0 ∷ bit_number b ∷ []
place_numbers (OnWire b) = (b.wire + 1) ∷ b.at ∷ []

-- a signal as numbers
abbrev pub key_of : List SigBit → List ℕ
key_of signal = flat_map place_numbers signal

-- the place that a table has at a key
abbrev pub at_key : SignalTable → List ℕ → Option ℕ
at_key table key = get_by (λ (k : Vec ℕ). bytes_eq key k.items) table.places

-- the place that a table has of a signal
abbrev pub place_in : SignalTable → List SigBit → Option ℕ
place_in table signal = at_key table (key_of signal)
