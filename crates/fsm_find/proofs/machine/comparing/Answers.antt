use Rattle.std.proofs.Common.{◌≡◌, arith, ℕ, ◌∙◌, ap, sym, cond, ◌++◌, ◌∷◌, [], refl, length, filter}
use Rattle.std.specs.Prelude.{slice_get}
use Rattle.std.specs.List.{list_any, range_with_len}
use Rattle.std.proofs.lemmas.Option.{slice_get_read}
use Rattle.net_model.specs.Fsm.Find.{cells_at_places, compares}
use Rattle.fsm_find.proofs.Comparing.{places_more}
use Rattle.fsm_find.proofs.Placed.{any_at}
use Rattle.fsm_find.proofs.machine.comparing.Goals as goal

pub loop-at-preserved : goal.loop-at-preserved
loop-at-preserved c = λ ports view.
    let m = c.args.module.now in
    let test = compares m c.args.view.now.state in
    let at = c.loop-at.at in
    let cell = c.index-cells-at.result in
    let is = ap (λ cs. slice_get cs at) (sym c.as_slice-cells.ensures.value) ∙ slice_get_read c.as_slice-cells.result.now _ at cell refl c.loop-at-test.true c.index-cells-at.is in
    c.in_ok-push_comparing.ensures.ok ports m view
    ∙ ap (λ ps. ps ++ cond (test cell) (at ∷ []) []) (c.loop-at.invariant ports view)
    ∙ ap (λ t. filter (λ (k : ℕ). list_any test (cells_at_places m.cells (k ∷ []))) (range_with_len 0 at) ++ cond t (at ∷ []) []) (sym (any_at test m.cells at cell is))
    ∙ sym (places_more (λ (k : ℕ). list_any test (cells_at_places m.cells (k ∷ []))) at)

pub returns : goal.returns
returns c = record {
  value = λ ports view.
      let last : c.loop-at.at ≡ length c.as_slice-cells.result.now = (let a = c.loop-at.auto.at-end in let b = c.loop-at-test.false in omega (arith, a, b)) in
      c.loop-at.invariant ports view
      ∙ ap (λ n. filter (λ (k : ℕ). list_any (compares c.args.module.now c.args.view.now.state) (cells_at_places c.args.module.now.cells (k ∷ []))) (range_with_len 0 n)) (last ∙ ap length c.as_slice-cells.ensures.value);
}
