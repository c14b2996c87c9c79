use Rattle.std.proofs.Common.{sym, ◌∙◌, ap, drop, ◌+◌}
use Rattle.std.specs.Prelude.{◌&&◌}
use Rattle.std.specs.List.{list_all}
use Rattle.std.proofs.Math.ListN.{drop_of_length-le}
use Rattle.net_model.specs.Fsm.Find.{cells_at_places, fits_code}
use Rattle.fsm_find.proofs.Placed.{all_next}
use Rattle.fsm_find.proofs.machine.all_fit.Goals as goal

pub returns-then-not-branch : goal.returns-then-not-branch
returns-then-not-branch c = record {
  value = λ ports view.
      let cells = c.args.module.now.cells in
      let rest = list_all (fits_code c.args.states) (cells_at_places cells (drop (c.loop-place.place-index + 1) c.args.places.now)) in
      sym (c.loop-place.invariant ports view ∙ all_next (fits_code c.args.states) cells c.args.places.now c.loop-place.place-index c.loop-place-test.true
      ∙ ap (λ t. t && rest) (sym (c.in_ok-fits_at.ensures.value ports view) ∙ c.if-not-branch.true));
}

pub loop-place-preserved : goal.loop-place-preserved
loop-place-preserved c = λ ports view.
    let cells = c.args.module.now.cells in
    let rest = list_all (fits_code c.args.states) (cells_at_places cells (drop (c.loop-place.place-index + 1) c.args.places.now)) in
    c.loop-place.invariant ports view ∙ all_next (fits_code c.args.states) cells c.args.places.now c.loop-place.place-index c.loop-place-test.true
    ∙ ap (λ t. t && rest) (sym (c.in_ok-fits_at.ensures.value ports view) ∙ c.if-not-branch.false)

pub returns : goal.returns
returns c = record {
  value = λ ports view. sym (c.loop-place.invariant ports view ∙ ap (λ ps. list_all (fits_code c.args.states) (cells_at_places c.args.module.now.cells ps)) (drop_of_length-le c.args.places.now c.loop-place-test.false));
}
