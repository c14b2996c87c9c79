-- The gates of the bits that are left, behind those so far, are all gates.
use Rattle.std.proofs.Common.{◌≡◌, drop}
use Rattle.net_index.specs.Builder.{IsInLimits}
use Rattle.map_flop.specs.Expand.{each_bit, storage_gate, storage_gates}
use Rattle.map_flop.specs.Gate.{bit_gate}
use Rattle.map_flop.proofs.storage_gates.Given as goal

abbrev pub invariant-loop-at : goal.invariant-loop-at
invariant-loop-at l = record {
  gates : each_bit (λ at q. storage_gate l.kind (bit_gate l.kind l.shape at) l.cell at q) l.at (drop l.at l.qs) l.builder ≡ storage_gates l.kind l.shape l.cell l.initial.builder;
  within : IsInLimits l.initial.builder → IsInLimits l.builder;
}
