-- The halving by the select bits that are left, from the parts so far, is the whole halving.
use Rattle.std.proofs.Common.{◌≡◌, drop}
use Rattle.net_index.specs.Builder.{IsInLimits}
use Rattle.map_gates.specs.Choice.{halved_of}
use Rattle.map_gates.proofs.choice.halved.Given as goal

abbrev pub invariant-loop-bit : goal.invariant-loop-bit
invariant-loop-bit l = record {
  net : halved_of l.fn.width l.parts (drop l.bit-index l.selects) l.builder ≡ halved_of l.fn.width l.fn.word l.fn.selects l.fn.builder;
  within : IsInLimits l.fn.builder → IsInLimits l.builder;
}
