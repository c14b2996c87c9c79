-- The sum of the bits that are left, above the bits so far, is the whole sum.
use Rattle.std.proofs.Common.{◌≡◌, drop}
use Rattle.net_index.specs.Builder.{IsInLimits}
use Rattle.gate_nets.specs.Sum.{sum_of}
use Rattle.gate_nets.proofs.Steps.{below_total}
use Rattle.gate_nets.proofs.adder.sum.Given as goal

abbrev pub invariant-loop-at : goal.invariant-loop-at
invariant-loop-at l = record {
  net : below_total l.bits (sum_of (drop l.at l.a) (drop l.at l.b) l.carried l.builder) ≡ sum_of l.fn.a l.fn.b l.fn.carry l.fn.builder;
  within : IsInLimits l.fn.builder → IsInLimits l.builder;
}
