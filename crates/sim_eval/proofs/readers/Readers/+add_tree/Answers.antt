use Rattle.std.proofs.Common.{◌≡◌, ◌++◌, ◌∙◌, ap, arith, subst, sym}
use Rattle.std.specs.Prelude.{flat_map}
use Rattle.std.proofs.lemmas.List.{take_all}
use Rattle.flat_net.specs.Choices.{BranchView, ChoiceView, branches_of, choices_of}
use Rattle.sim_eval.specs.Reads.{AddsReads, assigns_points, branch_points, branches_points, choice_points, choices_points, words_points}
use Rattle.sim_eval.proofs.AddingReads.{adds_more, adds_next, branches_points_of, choices_points_of}
use Rattle.sim_eval.proofs.readers.Readers.+add_tree.Goals as goal

pub add_branch-loop-choice-preserved : goal.add_branch-loop-choice-preserved
add_branch-loop-choice-preserved t c =
    adds_next c.deref-choice-items.result.now c.loop-choice.choice-index c.choice-item.result c.add_assigns.new.self c.loop-choice.self c.add_choice.new.self c.args.place c.loop-choice-test.true choice_points c.loop-choice.invariant
    (subst (λ z. AddsReads c.loop-choice.self c.add_choice.new.self c.args.place (choice_points z)) c.choice-item.is c.in_ok-add_choice.ensures.adds)

pub add_choice-loop-branch-preserved : goal.add_choice-loop-branch-preserved
add_choice-loop-branch-preserved t c =
    adds_next c.deref-branch-items.result.now c.loop-branch.branch-index c.branch-item.result c.add_points.new.self c.loop-branch.self c.add_branch.new.self c.args.place c.loop-branch-test.true branch_points c.loop-branch.invariant
    (subst (λ z. AddsReads c.loop-branch.self c.add_branch.new.self c.args.place (branch_points z)) c.branch-item.is c.in_ok-add_branch.ensures.adds)

pub add_branch-returns : goal.add_branch-returns
add_branch-returns t c =
    let b = c.args.branch.now in
    let place = c.args.place in
    let items = c.deref-choice-items.result.now in
    let words = subst (λ z. AddsReads c.args.self.now c.add_words.new.self place (words_points z)) (c.as_slice.ensures.value ∙ ap (λ (x : BranchView). x.patterns) c.branch.view_is) c.in_ok-add_words.ensures.adds in
    let assigns = subst (λ z. AddsReads c.add_words.new.self c.add_assigns.new.self place (assigns_points z)) (c.as_slice-2.ensures.value ∙ ap (λ (x : BranchView). x.assigns) c.branch.view_is) c.in_ok-add_assigns.ensures.adds in
    let all = subst (λ z. AddsReads c.add_assigns.new.self c.loop-choice.self place (flat_map choice_points z)) (take_all c.loop-choice.choice-index items (omega (arith, c.loop-choice-test.false))) c.loop-choice.invariant in
    let points : flat_map choice_points items ≡ choices_points b.choices =
    sym (choices_points_of items) ∙ ap choices_points (ap choices_of c.deref-choice-items.ensures.value ∙ ap (λ (x : BranchView). x.choices) c.branch.view_is) in
    let choices = subst (λ z. AddsReads c.add_assigns.new.self c.loop-choice.self place z) points all in
    record {
      adds = adds_more c.args.self.now c.add_words.new.self c.loop-choice.self place (words_points b.patterns) (assigns_points b.assigns ++ choices_points b.choices) words
          (adds_more c.add_words.new.self c.add_assigns.new.self c.loop-choice.self place (assigns_points b.assigns) (choices_points b.choices) assigns choices);
    }

pub add_choice-returns : goal.add_choice-returns
add_choice-returns t c =
    let x = c.args.choice.now in
    let place = c.args.place in
    let items = c.deref-branch-items.result.now in
    let signal = subst (λ z. AddsReads c.args.self.now c.add_points.new.self place z) (c.as_slice.ensures.value ∙ ap (λ (x : ChoiceView). x.signal) c.choice.view_is) c.in_ok-add_points.ensures.adds in
    let all = subst (λ z. AddsReads c.add_points.new.self c.loop-branch.self place (flat_map branch_points z)) (take_all c.loop-branch.branch-index items (omega (arith, c.loop-branch-test.false))) c.loop-branch.invariant in
    let points : flat_map branch_points items ≡ branches_points x.branches =
    sym (branches_points_of items) ∙ ap branches_points (ap branches_of c.deref-branch-items.ensures.value ∙ ap (λ (x : ChoiceView). x.branches) c.choice.view_is) in
    let branches = subst (λ z. AddsReads c.add_points.new.self c.loop-branch.self place z) points all in
    record { adds = adds_more c.args.self.now c.add_points.new.self c.loop-branch.self place x.signal (branches_points x.branches) signal branches }
