-- The words so far, and those that are left, are all.
use Rattle.std.proofs.Common.{◌≡◌, ◌++◌, map, drop}
use Rattle.rtl_bits.specs.Tables.{seen_of}
use Rattle.mem_gather.proofs.starts.seen_words.Given as goal

abbrev pub invariant-loop-word : goal.invariant-loop-word
invariant-loop-word l = l.seen ++ map (map seen_of) (drop l.word-index l.words) ≡ map (map seen_of) l.words
