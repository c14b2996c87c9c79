-- The gates of the bits that are left, above those so far, are all gates.
use Rattle.std.proofs.Common.{◌≡◌, drop}
use Rattle.net_index.specs.Builder.{IsInLimits}
use Rattle.gate_nets.specs.Words.{bitwise_of}
use Rattle.gate_nets.proofs.Steps.{below}
use Rattle.gate_nets.proofs.words.bitwise.Given as goal

abbrev pub invariant-loop-at : goal.invariant-loop-at
invariant-loop-at l = record {
  net : below l.made (bitwise_of l.kind (drop l.at l.a) (drop l.at l.b) l.builder) ≡ bitwise_of l.fn.kind l.fn.a l.fn.b l.fn.builder;
  within : IsInLimits l.fn.builder → IsInLimits l.builder;
}
