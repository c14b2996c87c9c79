-- What is left makes of the bits what all makes of them.
use Rattle.std.proofs.Common.{◌≡◌, ◌<◌, ℕ, drop, length}
use Rattle.std.specs.Prelude.{option_map}
use Rattle.flat_net.specs.Choices.{branches_of, choices_of}
use Rattle.sim_eval.specs.Trees.{bit_of, merged_with}
use Rattle.sim_eval.specs.Walk.{walked_branches, walked_choices, walked_signal}
use Rattle.sim_eval.proofs.walk.+decide.Given as goal

abbrev pub invariant-take-loop-choice : goal.invariant-take-loop-choice
invariant-take-loop-choice l =
    (at : ℕ) → at < length l.fn.bits → walked_choices l.walk at (choices_of (drop l.choice-index l.choice-items)) (bit_of l.bits at) ≡ walked_choices l.walk at (choices_of l.choice-items) (bit_of l.initial.bits at)

abbrev pub invariant-choose-loop-branch : goal.invariant-choose-loop-branch
invariant-choose-loop-branch l = record {
  same : l.bits ≡ l.initial.bits;
  merged : (at : ℕ) → at < length l.fn.bits → let b = bit_of l.initial.bits at in
      merged_with (option_map (λ v. v.items) l.merged) at (walked_branches l.walk at (walked_signal l.walk l.choice.signal l.choice.test) (branches_of (drop l.branch-index l.branch-items)) b)
      ≡ walked_branches l.walk at (walked_signal l.walk l.choice.signal l.choice.test) (branches_of l.branch-items) b;
}
