-- The gates of the bits that are left, behind those so far, are all gates.
use Rattle.std.proofs.Common.{◌≡◌, false, drop}
use Rattle.net_index.specs.Builder.{IsInLimits}
use Rattle.map_gates.specs.Gates.{mux_gate, bit_at, each_bit}
use Rattle.map_gates.proofs.bitwise.bwmux_gates.Given as goal

abbrev pub invariant-loop-at : goal.invariant-loop-at
invariant-loop-at l = record {
  gates : each_bit (λ at y. mux_gate (bit_at false l.a at) (bit_at false l.b at) (bit_at false l.s at) y) l.at (drop l.at l.y) l.builder ≡ each_bit (λ at y. mux_gate (bit_at false l.a at) (bit_at false l.b at) (bit_at false l.s at) y) 0 l.y l.initial.builder;
  within : IsInLimits l.initial.builder → IsInLimits l.builder;
}
