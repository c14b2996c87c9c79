use Rattle.std.proofs.Common.{◌∙◌, ap, sym}
use Rattle.std.specs.Prelude.{slice_get}
use Rattle.net_model.specs.Fsm.Find.{fits_code}
use Rattle.fsm_find.proofs.Placed.{all_at, all_past}
use Rattle.fsm_find.proofs.machine.fits_at.Goals as goal

pub returns-in_ok-fits-in-Some : goal.returns-in_ok-fits-in-Some
returns-in_ok-fits-in-Some c = record {
  value = λ ports view.
      let is = ap (λ cs. slice_get cs c.args.place) (sym c.as_slice.ensures.value) ∙ sym c.in-Some.ensures.value in
      c.in_ok-fits-in-Some.ensures.value ports c.args.module.now view ∙ sym (all_at (fits_code c.args.states) c.args.module.now.cells c.args.place c.in-Some.cell.now is);
}

pub returns-in-None : goal.returns-in-None
returns-in-None c = record {
  value = λ ports view.
      let is = ap (λ cs. slice_get cs c.args.place) (sym c.as_slice.ensures.value) ∙ sym c.in-None.ensures.value in
      sym (all_past (fits_code c.args.states) c.args.module.now.cells c.args.place is);
}
