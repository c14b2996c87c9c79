use Rattle.std.proofs.Common.{◌∙◌, ◌&&◌, sym, ap}
use Rattle.cell_types.specs.declared.param_name.ParamName.TheVariants as Param
use Rattle.cell_types.specs.declared.pin_name.PinName.TheVariants.{Addr, Data}
use Rattle.cell_types.specs.PinName.{pin_text}
use Rattle.rtl_ir.specs.Faults.MemoryCells.{number_at}
use Rattle.rtl_ir.specs.Parameters.{signal_at}
use Rattle.rtl_ir.specs.Signals.{is_all_constant}
use Rattle.memory_check.specs.Starts.{are_inside}
use Rattle.memory_check.proofs.Shaping.{says}
use Rattle.memory_check.proofs.starts.are_words.Goals as goal

pub returns-then-is_all_constant : goal.returns-then-is_all_constant
returns-then-is_all_constant c = record {
  value = λ kind has.
      let words = number_at c.args.cell.now Param.Words in
      let given = c.pin_signal.ensures.value ∙ ap (λ ps. signal_at ps (pin_text Data)) c.as_slice-pins.ensures.value in
      let constant = sym c.if-is_all_constant.true ∙ c.is_all_constant.ensures.value ∙ ap is_all_constant given in
      let address = c.pin_signal-then-is_all_constant.ensures.value ∙ ap (λ ps. signal_at ps (pin_text Addr)) c.as_slice-pins.ensures.value in
      let inside = c.are_inside.ensures.value words (says c.args.shape.now kind c.args.cell.now has).words ∙ ap (λ a. are_inside c.args.store.now a words) address in
      (λ i. constant i && inside i);
}
