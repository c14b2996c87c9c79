use Rattle.std.proofs.Common.{◌++◌, ◌∙◌, ap, sym, subst, append-nil}
use Rattle.std.specs.Prelude.{slice_get}
use Rattle.rtl_ir.specs.Signals.{wire_bits}
use Rattle.fsm_find.specs.Readers.{AreMarks}
use Rattle.fsm_find.proofs.Placed.{outputs_at, outputs_past}
use Rattle.fsm_find.proofs.machine.mark_output.Goals as goal

pub returns-in_ok-mark-in-Some : goal.returns-in_ok-mark-in-Some
returns-in_ok-mark-in-Some c = record {
  ok = λ bits are.
      let is = ap (λ cs. slice_get cs c.args.place) (sym c.as_slice.ensures.value) ∙ sym c.in-Some.ensures.value in
      subst (AreMarks c.mark.new.table)
      (ap (λ ws. bits ++ ws) (ap wire_bits c.at_pin.ensures.value ∙ sym (outputs_at c.args.module.now c.args.place c.in-Some.cell.now is)))
      (c.in_ok-mark-in-Some.ensures.ok bits are);
}

pub returns-in-None : goal.returns-in-None
returns-in-None c = record {
  ok = λ bits are.
      let is = ap (λ cs. slice_get cs c.args.place) (sym c.as_slice.ensures.value) ∙ sym c.in-None.ensures.value in
      subst (AreMarks c.args.table.now) (sym (append-nil bits) ∙ ap (λ ws. bits ++ ws) (sym (outputs_past c.args.module.now c.args.place is))) are;
}
