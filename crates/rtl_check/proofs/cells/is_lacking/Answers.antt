use Rattle.std.proofs.Common.{◌∙◌, ap, is_some}
use Rattle.rtl_check.proofs.CellLemmas.{at_pin, lacks_in_table}
use Rattle.rtl_check.proofs.cells.is_lacking.Goals as goal

pub returns : goal.returns
returns c = record {
  value = λ lines are. lacks_in_table lines c.args.pin.now c.contains_key.result
      (c.contains_key.ensures ∙ ap is_some (at_pin c.args.ports.now lines are c.as_slice.result.now c.args.pin.now.name c.as_slice.ensures.value));
}
