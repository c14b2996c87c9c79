-- The outputs so far, and those that are left, are all.
use Rattle.std.proofs.Common.{◌≡◌}
use Rattle.net_index.specs.Builder.{IsInLimits}
use Rattle.fsm_code.specs.Outputs.{IsTabled, fresh_by, outputs_of}
use Rattle.fsm_code.proofs.Freshening.{after}
use Rattle.fsm_code.proofs.wires.fresh_outputs.Given as goal

abbrev pub invariant-loop-before : goal.invariant-loop-before
invariant-loop-before l = record {
  all : after (outputs_of l.outputs) (fresh_by l.width l.before-iterator.rest.items l.builder) ≡ fresh_by l.width l.fn.old.items l.initial.builder;
  tabled : IsTabled l.outputs;
  within : IsInLimits l.initial.builder → IsInLimits l.builder;
}
