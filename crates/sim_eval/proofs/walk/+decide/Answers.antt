use Rattle.std.proofs.Common.{◌≡◌, ◌<◌, ◌+◌, ◌∙◌, ap, arith, drop, length, sym, subst}
use Rattle.std.proofs.lemmas.List.{take_at}
use Rattle.std.specs.Prelude.{option_map}
use Rattle.flat_net.specs.Choices.{BranchView, ChoiceView, branches_of}
use Rattle.sim_eval.specs.Trees.{bit_of, branch_match, merged_with}
use Rattle.sim_eval.specs.Walk.{walked, walked_branch, walked_branches, walked_signal}
use Rattle.sim_eval.proofs.TreeLoops.{branch_open, branch_passed, choice_next}
use Rattle.sim_eval.proofs.walk.+decide.Goals as goal
use Rattle.sim_eval.proofs.walk.+decide.Goals.{choose-in-S0, choose-in_default+in_ok-other-in_default+in_ok-take-in_default}

pub take-loop-choice-preserved : goal.take-loop-choice-preserved
take-loop-choice-preserved t c = λ at l.
    let w = c.args.walk.now in
    choice_next w.values.now w.reset (walked w) at c.deref-choice-items.result.now c.loop-choice.choice-index c.choice-item.result c.loop-choice-test.true c.choice-item.is
    (bit_of c.loop-choice.bits at) (bit_of c.choose.new.bits at) _ (c.in_ok-choose.ensures.value at (omega (arith, c.loop-choice.auto.bits))) (c.loop-choice.invariant at l)

pub choose-loop-branch-preserved : goal.choose-loop-branch-preserved
choose-loop-branch-preserved t c =
    let walk = c.args.walk.now in
    let values = walk.values.now in
    let signal = walked_signal walk c.args.choice.now.signal c.args.choice.now.test in
    let items = c.deref-branch-items.result.now in
    let k = c.loop-branch.branch-index in
    let b = c.branch-item.result in
    let points = c.as_slice.ensures.value ∙ ap (λ (x : ChoiceView). x.signal) c.choice.view_is in
    let test = ap (λ (x : ChoiceView). x.test) c.choice.view_is in
    let word : c.as_slice-in-loop-branch.result.now ≡ signal =
    c.as_slice-in-loop-branch.ensures.value ∙ c.in_ok-signal.ensures.value ∙ (λ i. walked_signal walk (points i) (test i)) in
    let patterns = c.as_slice-in-loop-branch-2.ensures.value ∙ ap (λ (x : BranchView). x.patterns) c.branch.view_is in
    let match : c.branch_match.result ≡ branch_match values signal b.patterns = c.branch_match.ensures.value ∙ (λ i. branch_match values (word i) (patterns i)) in
    record {
      same = c.loop-branch.invariant.same;
      merged = λ at l.
          let e = bit_of c.args.bits.now at in
          let before = c.loop-branch.invariant.merged at l in
          elim c.match-branch_match.branch [
            | choose-in-S0 w ↦ ap (λ m. merged_with (option_map (λ v. v.items) m) at (walked_branches walk at signal (branches_of (drop (k + 1) items)) e)) w.merged-is ∙ branch_passed values walk.reset (walked walk) at signal items k b c.loop-branch-test.true c.branch-item.is e _ (sym match ∙ w.in-S0.is) _ before
            | choose-in_default+in_ok-other-in_default+in_ok-take-in_default w ↦
                let list : w.deref_mut.result.now ≡ c.args.bits.now = w.deref_mut.ensures.value ∙ w.in_ok-other-in_default.ensures.items_if_clones_equal (λ x y h. h) ∙ c.loop-branch.invariant.same in
                let after = w.in_ok-take-in_default.ensures.value at (subst (λ z. at < length z) (sym list) l) in
                let whole = take_at w.take-in_default.new.bits _ w.in_ok-other-in_default.other.len (w.take-in_default.auto.bits ∙ w.deref_mut.ensures.len) in
                ap (λ m. merged_with (option_map (λ v. v.items) m) at (walked_branches walk at signal (branches_of (drop (k + 1) items)) e)) w.merged-is
                ∙ branch_open values walk.reset (walked walk) at signal items k b c.loop-branch-test.true c.branch-item.is e _ (λ h. w.in_default.not-S0 (match ∙ h)) (λ h. w.in_default.not-S1 (match ∙ h)) _ _ _
                (ap (λ z. bit_of z at) whole ∙ after ∙ ap (λ z. walked_branch walk at b (bit_of z at)) list)
                (λ v. w.put_open.ensures.value at v) before
          ];
    }
