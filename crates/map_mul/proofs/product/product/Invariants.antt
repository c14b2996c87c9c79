-- The rows that are left, on the product so far, give the whole product.
use Rattle.std.proofs.Common.{◌≡◌, drop}
use Rattle.net_index.specs.Builder.{IsInLimits}
use Rattle.map_mul.specs.Product.{product_from, product_of}
use Rattle.map_mul.proofs.product.product.Given as goal

abbrev pub invariant-loop-at : goal.invariant-loop-at
invariant-loop-at l = record {
  net : product_from l.so_far l.a l.at (drop l.at l.b) l.builder ≡ product_of l.fn.a l.fn.b l.fn.builder;
  within : IsInLimits l.fn.builder → IsInLimits l.builder;
}
