-- Words in two's complement by sign and size.
use Rattle.std.specs.Prelude.{true, List}
use Rattle.rtl_ir.specs.Build.{Build}
use Rattle.rtl_sig.specs.Signal.{fill_of}
use Rattle.rtl_sig.specs.declared.sig.SigBit.{SigBit}
use Rattle.gate_nets.specs.Gate.{◌>>=◌}
use Rattle.gate_nets.specs.Sum.{negative_of}
use Rattle.gate_nets.specs.Words.{select_of}

-- the top bit of a word, its sign in two's complement; of no bits it is 0
abbrev pub top_of : List SigBit → SigBit
top_of bits = fill_of bits true

-- the two's complement of a word where a bit is 1, else the word
unfoldable pub negated_where : List SigBit → SigBit → Build (List SigBit)
negated_where bits negative = do
  complement ← negative_of bits
  select_of bits complement negative

-- how far a word in two's complement is from 0
abbrev pub magnitude_of : List SigBit → Build (List SigBit)
magnitude_of bits = negated_where bits (top_of bits)
