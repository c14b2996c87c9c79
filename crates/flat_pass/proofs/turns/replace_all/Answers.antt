use Rattle.std.proofs.Common.{◌≡◌, ◌+◌, ◌-◌, ◌∙◌, ap, sym, subst, rules, OnOk, Some}
use Rattle.std.proofs.lemmas.Bool.{OnFalse_at, OnTrue_at}
use Rattle.flat_pass.specs.Flat.{flat_after}
use Rattle.flat_pass.specs.Grown.{built}
use Rattle.flat_pass.proofs.Turning.{no_turn_left, turns_left}
use Rattle.flat_pass.proofs.turns.replace_all.Goals as goal

pub returns-in_err-replace_first-clause-over : goal.returns-in_err-replace_first-clause-over
returns-in_err-replace_first-clause-over c = λ below are e.
    sym (c.loop-turn.invariant.left below are)
    ∙ ap (λ k. flat_after k below (built c.loop-turn.grown)) (turns_left c.loop-turn._turn c.loop-turn-test.true)
    ∙ c.replace_first.ensures.over (1048576 - (c.loop-turn._turn + 1)) below are (search (rules, e, c.from_residual.ensures))

pub returns-then-branch-clause-exact : goal.returns-then-branch-clause-exact
returns-then-branch-clause-exact c = λ below are.
    sym (c.loop-turn.invariant.left below are) ∙ OnTrue_at c.if-branch.true c.in_ok-replace_first.ensures.none (1048576 - c.loop-turn._turn) below

pub loop-turn-preserved : goal.loop-turn-preserved
loop-turn-preserved c =
    record {
      left = λ below are.
          sym (OnFalse_at c.if-branch.false c.in_ok-replace_first.ensures.one (1048576 - (c.loop-turn._turn + 1)) below are)
          ∙ ap (λ k. flat_after k below (built c.loop-turn.grown)) (sym (turns_left c.loop-turn._turn c.loop-turn-test.true))
          ∙ c.loop-turn.invariant.left below are;
      sound = c.in_ok-replace_first.ensures.sound;
    }

pub returns-clause-exact : goal.returns-clause-exact
returns-clause-exact c = λ below are.
    subst (λ z. OnOk c.has_none.result (z ≡ Some (built c.has_none.new.grown).body)) (ap (λ k. flat_after k below (built c.loop-turn.grown)) (sym (no_turn_left c.loop-turn._turn c.loop-turn-test.false)) ∙ c.loop-turn.invariant.left below are) (c.has_none.ensures.exact below)

pub returns-clause-over : goal.returns-clause-over
returns-clause-over c = λ below are e.
    sym (c.loop-turn.invariant.left below are) ∙ ap (λ k. flat_after k below (built c.loop-turn.grown)) (no_turn_left c.loop-turn._turn c.loop-turn-test.false) ∙ c.has_none.ensures.over below e
