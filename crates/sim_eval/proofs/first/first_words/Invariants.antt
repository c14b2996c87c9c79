-- What is kept so far and what is left give all.
use Rattle.std.proofs.Common.{◌≡◌, ◌++◌, drop}
use Rattle.flat_net.specs.declared.memory.WordBit.{WordBit}
use Rattle.sim_eval.specs.First.{marked, unmarked}
use Rattle.sim_eval.proofs.first.first_words.Given as goal

abbrev pub invariant-loop-bit : goal.invariant-loop-bit
invariant-loop-bit l = record {
  kept : l.kept ++ unmarked (λ (x : WordBit). x.number) l.seen (drop l.bit-index l.bits) ≡ unmarked (λ (x : WordBit). x.number) l.fn.seen l.bits;
  seen : marked (λ (x : WordBit). x.number) l.seen (drop l.bit-index l.bits) ≡ marked (λ (x : WordBit). x.number) l.fn.seen l.bits;
}
