-- The bits so far, and those that the patterns that are left give, are all.
use Rattle.std.proofs.Common.{◌≡◌, drop}
use Rattle.net_index.specs.Builder.{IsInLimits}
use Rattle.net_model.specs.Proc.Mux.{pattern_bits}
use Rattle.match_cells.proofs.Patterns.{behind_bits}
use Rattle.match_cells.proofs.cells.pattern_bits.Given as goal

abbrev pub invariant-loop-pattern : goal.invariant-loop-pattern
invariant-loop-pattern l = record {
  all : behind_bits l.bits (pattern_bits l.signal (drop l.pattern-index l.patterns) l.builder) ≡ pattern_bits l.signal l.patterns l.initial.builder;
  within : IsInLimits l.initial.builder → IsInLimits l.builder;
}
