use Rattle.std.proofs.Common.{◌∙◌}
use Rattle.rtl_check.proofs.CellLemmas.{at_pin, other_width}
use Rattle.rtl_check.proofs.cells.is_misfit.Goals as goal

pub returns-then-width-ne0 : goal.returns-then-width-ne0
returns-then-width-ne0 c = record {
  value = λ lines are. other_width lines c.args.pin.now c.in-Some.port.now c.as_slice-width.result.now c.as_slice-width.ensures.value c.if-width-ne0.true
      (c.in-Some.ensures.value ∙ at_pin c.args.ports.now lines are c.as_slice.result.now c.args.pin.now.name c.as_slice.ensures.value);
}
