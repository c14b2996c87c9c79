-- The wires so far, and those of the start values that are left, are all.
use Rattle.std.proofs.Common.{◌≡◌, drop}
use Rattle.net_index.specs.Builder.{IsInLimits}
use Rattle.mem_map.proofs.Going.{behind}
use Rattle.mem_map.proofs.Numbered.{wires}
use Rattle.mem_map.proofs.words.word_wires.Given as goal

abbrev pub invariant-loop-bits : goal.invariant-loop-bits
invariant-loop-bits l = record {
  all : behind l.signals (wires (drop l.bits-index l.starts) l.builder) ≡ wires l.starts l.initial.builder;
  within : IsInLimits l.initial.builder → IsInLimits l.builder;
}
