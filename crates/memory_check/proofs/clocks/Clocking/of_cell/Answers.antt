use Rattle.std.proofs.Common.{◌∙◌, ap, map}
use Rattle.cell_types.specs.declared.pin_name.PinName.TheVariants.{Clk}
use Rattle.cell_types.specs.PinName.{pin_text}
use Rattle.rtl_ir.specs.Follow.{follow}
use Rattle.rtl_ir.specs.Parameters.{signal_at}
use Rattle.memory_check.proofs.Shaping.{rising_is}
use Rattle.memory_check.proofs.clocks.Clocking.of_cell.Goals as goal

pub returns : goal.returns
returns c = record {
  value = λ has links.
      let clock = c.pin_signal.ensures.value ∙ ap (λ ps. signal_at ps (pin_text Clk)) c.as_slice.ensures.value in
      let rising = c.is_high.ensures.value ∙ rising_is c.args.shape.now c.args.cell.now has in
      (λ i. record { clock = map (follow links) (clock i); rising = rising i });
}
