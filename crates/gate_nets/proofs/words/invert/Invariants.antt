-- The inverses of the bits that are left, above those so far, are all inverses.
use Rattle.std.proofs.Common.{◌≡◌, drop}
use Rattle.net_index.specs.Builder.{IsInLimits}
use Rattle.gate_nets.specs.Words.{inverse_of}
use Rattle.gate_nets.proofs.Steps.{below}
use Rattle.gate_nets.proofs.words.invert.Given as goal

abbrev pub invariant-loop-bit : goal.invariant-loop-bit
invariant-loop-bit l = record {
  net : below l.made (inverse_of (drop l.bit-index l.bits) l.builder) ≡ inverse_of l.fn.bits l.fn.builder;
  within : IsInLimits l.fn.builder → IsInLimits l.builder;
}
