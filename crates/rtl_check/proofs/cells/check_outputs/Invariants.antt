-- None of the pins so far drives a constant.
use Rattle.std.proofs.Common.{◌≡◌, drop}
use Rattle.rtl_ir.specs.Faults.Cells.{has_constant_output}
use Rattle.rtl_ir.specs.Types.{CellType}
use Rattle.net_index.specs.Types.{IsType}
use Rattle.rtl_check.proofs.cells.check_outputs.Given as goal

abbrev pub invariant-loop-pin : goal.invariant-loop-pin
invariant-loop-pin l =
    (type : CellType) → IsType l.cell_type type → has_constant_output type (drop l.pin-index l.cell.pins) ≡ has_constant_output type l.cell.pins
