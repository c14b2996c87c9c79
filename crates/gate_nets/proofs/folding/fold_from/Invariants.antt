-- The bits that are left, joined with what is joined so far, are all joined.
use Rattle.std.proofs.Common.{◌≡◌, drop}
use Rattle.net_index.specs.Builder.{IsInLimits}
use Rattle.gate_nets.specs.Words.{fold_from}
use Rattle.gate_nets.proofs.folding.fold_from.Given as goal

abbrev pub invariant-loop-bit : goal.invariant-loop-bit
invariant-loop-bit l = record {
  net : fold_from l.kind l.joined (drop l.bit-index l.rest) l.builder ≡ fold_from l.kind l.fn.first l.fn.rest l.fn.builder;
  within : IsInLimits l.fn.builder → IsInLimits l.builder;
}
