-- The choices and branches so far are read.
use Rattle.std.proofs.Common.{take}
use Rattle.std.specs.Prelude.{flat_map}
use Rattle.sim_eval.specs.Reads.{AddsReads, branch_points, choice_points}
use Rattle.sim_eval.proofs.readers.Readers.+add_tree.Given as goal

abbrev pub invariant-add_branch-loop-choice : goal.invariant-add_branch-loop-choice
invariant-add_branch-loop-choice l = AddsReads l.initial.self l.self l.place (flat_map choice_points (take l.choice-index l.choice-items))

abbrev pub invariant-add_choice-loop-branch : goal.invariant-add_choice-loop-branch
invariant-add_choice-loop-branch l = AddsReads l.initial.self l.self l.place (flat_map branch_points (take l.branch-index l.branch-items))
