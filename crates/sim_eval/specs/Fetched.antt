-- What read ports give, by the values of the numbered bits.
use Rattle.std.specs.Prelude.{◌≡◌, ℕ, min, true, false, List, map, Option, Some, None, slice_index_or}
use Rattle.rtl_bits.specs.declared.bit.Bit.{Bit}
use Rattle.rtl_bits.specs.declared.bit.Bit.TheVariants.{S0, S1, X}
use Rattle.rtl_bits.specs.Knowledge.{all_known}
use Rattle.rtl_bits.specs.Numbers.{number_of}
use Rattle.flat_net.specs.declared.net.Point.{Point}
use Rattle.net_model.specs.Words.{fetched_of}
use Rattle.sim_eval.specs.Numbers.{number_word}

-- what the bits of these numbers have
abbrev pub number_column : List Bit → List ℕ → List Bit
number_column values column = map (λ number. slice_index_or values number X) column

-- what a port with this address reads of a column of words, from the word at a first address on
abbrev pub number_fetched : List Bit → ℕ → List Point → List ℕ → Bit
number_fetched values first address column = fetched_of (number_word values address) first (number_column values column)

-- a known bit as a number
abbrev pub known_digit : Bit → Option ℕ
known_digit S0 = Some 0
known_digit S1 = Some 1
known_digit b = None

-- the number that bits are, where all are known, and no more than a bound
abbrev pub IsNumber : ℕ → List Bit → Option ℕ → Type 0
IsNumber bound bits None = all_known bits ≡ false
IsNumber bound bits (Some number) = (all_known bits ≡ true) × (number ≡ min bound (number_of bits))
