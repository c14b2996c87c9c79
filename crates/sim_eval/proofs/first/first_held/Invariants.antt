-- What is kept so far and what is left give all.
use Rattle.std.proofs.Common.{◌≡◌, ◌++◌, drop}
use Rattle.flat_net.specs.declared.leaves.HeldBit.{HeldBit}
use Rattle.sim_eval.specs.First.{marked, unmarked}
use Rattle.sim_eval.proofs.first.first_held.Given as goal

abbrev pub invariant-loop-bit : goal.invariant-loop-bit
invariant-loop-bit l = record {
  kept : l.kept ++ unmarked (λ (x : HeldBit). x.number) l.seen (drop l.bit-index l.bits) ≡ unmarked (λ (x : HeldBit). x.number) l.fn.seen l.bits;
  seen : marked (λ (x : HeldBit). x.number) l.seen (drop l.bit-index l.bits) ≡ marked (λ (x : HeldBit). x.number) l.fn.seen l.bits;
}
