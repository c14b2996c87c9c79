use Rattle.std.proofs.Common.{◌≡◌, ◌++◌, map, take}
use Rattle.rtl_bits.specs.Tables.{seen_of}
use Rattle.cell_word.proofs.choice.push_seen.Given as goal

-- the bits so far
abbrev pub invariant-loop-bit : goal.invariant-loop-bit
invariant-loop-bit l = l.bits ≡ l.initial.bits ++ map seen_of (take l.bit-index l.more)
