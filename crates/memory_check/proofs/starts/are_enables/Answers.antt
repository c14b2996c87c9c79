use Rattle.std.proofs.Common.{◌∙◌, ◌||◌, sym, ap}
use Rattle.cell_types.specs.declared.pin_name.PinName.TheVariants.{En}
use Rattle.cell_types.specs.PinName.{pin_text}
use Rattle.rtl_ir.specs.Parameters.{signal_at}
use Rattle.rtl_ir.specs.Signals.{is_all_constant}
use Rattle.memory_check.proofs.Shaping.{no_words}
use Rattle.memory_check.proofs.starts.are_enables.Goals as goal

pub returns-else-is_all_constant : goal.returns-else-is_all_constant
returns-else-is_all_constant c = record {
  value = λ kind has.
      let signal = c.pin_signal.ensures.value ∙ ap (λ ps. signal_at ps (pin_text En)) c.as_slice.ensures.value in
      let constant = sym c.if-is_all_constant.false ∙ c.is_all_constant.ensures.value ∙ ap is_all_constant signal in
      (λ i. constant i || no_words c.args.shape.now kind c.args.cell.now has i);
}
