-- The gates of the bits that are left, above those so far, are all gates.
use Rattle.std.proofs.Common.{◌≡◌, drop}
use Rattle.net_index.specs.Builder.{IsInLimits}
use Rattle.gate_nets.proofs.Steps.{below}
use Rattle.map_mul.specs.Product.{row_of}
use Rattle.map_mul.proofs.product.row.Given as goal

abbrev pub invariant-loop-bit : goal.invariant-loop-bit
invariant-loop-bit l = record {
  net : below l.made (row_of (drop l.bit-index l.bits) l.by l.builder) ≡ row_of l.fn.bits l.fn.by l.fn.builder;
  within : IsInLimits l.fn.builder → IsInLimits l.builder;
}
