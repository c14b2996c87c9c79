-- The choice by the select bits that are left, from the word so far and the parts that are left, is the whole choice.
use Rattle.std.proofs.Common.{◌≡◌, drop, length}
use Rattle.net_index.specs.Builder.{IsInLimits}
use Rattle.map_gates.specs.Choice.{chosen_of}
use Rattle.map_gates.proofs.choice.chosen.Given as goal

abbrev pub invariant-loop-bit : goal.invariant-loop-bit
invariant-loop-bit l = record {
  net : chosen_of (length l.fn.a) l.word l.parts (drop l.bit-index l.selects) l.builder ≡ chosen_of (length l.fn.a) l.fn.a l.fn.b l.fn.selects l.fn.builder;
  within : IsInLimits l.fn.builder → IsInLimits l.builder;
}
