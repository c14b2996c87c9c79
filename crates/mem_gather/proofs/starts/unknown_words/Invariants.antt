-- There are as many words as rounds.
use Rattle.std.proofs.Common.{◌≡◌, replicate}
use Rattle.rtl_bits.specs.declared.bit.Bit.TheVariants.{X}
use Rattle.mem_gather.proofs.starts.unknown_words.Given as goal

abbrev pub invariant-loop : goal.invariant-loop
invariant-loop l = l.words.items ≡ replicate l.counter (replicate l.width X)
