-- Words with rising address.
use Rattle.std.specs.Prelude.{ℕ, ◌+◌, ◌^◌, ◌&&◌, nat_lt, Bool, List, [], ◌∷◌, length}
use Rattle.rtl_bits.specs.declared.bit.Bit.{Bit}
use Rattle.rtl_sig.specs.declared.sig.SigBit.{SigBit}
use Rattle.rtl_ir.specs.Build.{Build, fresh_wire}
use Rattle.net_model.specs.Mem.Expand.{Word}
use Rattle.net_model.specs.Proc.Start.{init_attribute}
use Rattle.mem_map.specs.declared.words.Words.{Words}

-- the words of these signals, from an address on
abbrev pub numbered : ℕ → List (List SigBit) → List Word
numbered first [] = []
numbered first (signal ∷ signals) = record { address = first; signal = signal } ∷ numbered (first + 1) signals

-- words as the definition has them
abbrev pub words_of : Words → List Word
words_of w = numbered w.first w.signals

-- the word at an address with this signal
abbrev pub word : ℕ → List SigBit → Word
word address signal = record { address = address; signal = signal }

-- the fresh wire of a word with these start values
abbrev pub word_wire : List Bit → Build (List SigBit)
word_wire bits = fresh_wire (length bits) (init_attribute bits ∷ [])

-- a word stands at one of the addresses of so many bits, from a base on
abbrev pub has_word : Words → ℕ → ℕ → Bool
has_word w bits base = nat_lt base (w.first + length w.signals) && nat_lt w.first (base + 2 ^ bits)
