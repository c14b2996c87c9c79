use Rattle.std.proofs.Common.{◌∙◌, ap, is_some}
use Rattle.rtl_ir.specs.Ports.{is_library_cell}
use Rattle.rtl_ir.proofs.table.is_library_cell.Goals as goal

pub returns : goal.returns
unfolding is_library_cell
returns c = record { value = c.is_some.ensures ∙ ap is_some c.kind_of.ensures.value }
