use Rattle.std.proofs.Common.{ℕ, List, sym, subst, ap, ◌∙◌, refl}
use Rattle.std.proofs.lemmas.Option.{slice_get_read}
use Rattle.std.specs.Prelude.{slice_get}
use Rattle.net_model.specs.Lists.{In}
use Rattle.fsm_find.specs.Trees.{Visits}
use Rattle.fsm_find.proofs.Finding.{under_arm}
use Rattle.fsm_find.proofs.Visiting.{at_false, at_true, get_in, open_new}
use Rattle.fsm_find.proofs.reach.Reach.open.Goals as goal

pub returns-then-not-branch : goal.returns-then-not-branch
returns-then-not-branch c = record {
  ok = λ ports root view r next.
      let m = c.args.module.now in
      let is = ap (λ cs. slice_get cs c.args.at) (sym c.as_slice-cells.ensures.value) ∙ slice_get_read c.as_slice-cells.result.now _ c.args.at c.index-cells-at.result refl c.if-at-cells.false c.index-cells-at.is in
      let fork = r.forks c.args.at (get_in c.args.self.now.forks.items _ c.args.at next) in
      let arms = c.as_slice.ensures.value ∙ c.in_ok-arms.ensures.value ports m view.index in
      at_false _ _ _ c.if-not-branch.true (c.in_ok-visit_all.ensures.ok ports m root view r (λ s i. under_arm m c.args.view.now.state root c.args.at fork c.index-cells-at.result is s (subst (In s) arms i)));
}

pub returns : goal.returns
returns c = record {
  ok = λ ports root view r next.
      let m = c.args.module.now in
      let is = ap (λ cs. slice_get cs c.args.at) (sym c.as_slice-cells.ensures.value) ∙ slice_get_read c.as_slice-cells.result.now _ c.args.at c.index-cells-at.result refl c.if-at-cells.false c.index-cells-at.is in
      let fork = r.forks c.args.at (get_in c.args.self.now.forks.items _ c.args.at next) in
      let arms = c.as_slice.ensures.value ∙ c.in_ok-arms.ensures.value ports m view.index in
      let v = at_true _ _ _ c.if-not-branch.false (c.in_ok-visit_all.ensures.ok ports m root view r (λ s i. under_arm m c.args.view.now.state root c.args.at fork c.index-cells-at.result is s (subst (In s) arms i))) in
      open_new m c.args.view.now.state root c.args.at c.index-cells-at.result c.args.self.now c.visit_all.new.self _ c.as_slice.result.now (record { fork = c.args.at; below = c.visit_all.new.below }) is arms next
      (subst (λ (bs : List ℕ). Visits m c.args.view.now.state root c.as_slice.result.now c.args.self.now c.visit_all.new.self bs c.visit_all.new.below.items) c.new-below.ensures.items v) refl c.in_ok-push.ensures.items refl refl refl;
}
