-- The bits so far, and those that are left, are all.
use Rattle.std.proofs.Common.{◌≡◌, ◌++◌, map, drop}
use Rattle.rtl_bits.specs.Tables.{seen_of}
use Rattle.mem_gather.proofs.starts.seen_word.Given as goal

abbrev pub invariant-loop-bit : goal.invariant-loop-bit
invariant-loop-bit l = l.seen ++ map seen_of (drop l.bit-index l.word) ≡ map seen_of l.word
