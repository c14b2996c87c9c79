use Rattle.std.proofs.Common.{◌∙◌, sym, ap}
use Rattle.std.specs.Prelude.{not}
use Rattle.net_model.specs.Fsm.Find.{followed_bits, meets_any}
use Rattle.fsm_find.specs.Order.{is_done}
use Rattle.fsm_find.proofs.Comparing.{pin_well}
use Rattle.fsm_find.proofs.readers.pin_reads_well.Goals as goal

pub returns-then-meets : goal.returns-then-meets
returns-then-meets c = record {
  value = λ ports m places bits view types are marks.
      sym (ap not c.if-meets.true) ∙
      pin_well ports m places c.args.readers.now.machine.now.flop bits c.args.at c.args.cell.now c.args.pin.now c.is_output_pin.result c.may_read.result c.meets.result (c.is_output_pin.ensures.value ports types) c.if-is_output_pin.false (c.may_read.ensures.value places (λ at. are at ∙ ap (λ d. is_done d at) (sym c.as_slice.ensures.value))) c.if-may_read.false (c.meets.ensures.value ports m bits view marks ∙ ap (λ s. meets_any (followed_bits m s) bits) c.as_slice-2.ensures.value);
}

pub returns : goal.returns
returns c = record {
  value = λ ports m places bits view types are marks.
      sym (ap not c.if-meets.false) ∙
      pin_well ports m places c.args.readers.now.machine.now.flop bits c.args.at c.args.cell.now c.args.pin.now c.is_output_pin.result c.may_read.result c.meets.result (c.is_output_pin.ensures.value ports types) c.if-is_output_pin.false (c.may_read.ensures.value places (λ at. are at ∙ ap (λ d. is_done d at) (sym c.as_slice.ensures.value))) c.if-may_read.false (c.meets.ensures.value ports m bits view marks ∙ ap (λ s. meets_any (followed_bits m s) bits) c.as_slice-2.ensures.value);
}
