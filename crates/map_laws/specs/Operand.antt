-- The shape and the operands of a cell that becomes gates.
use Rattle.std.specs.Prelude.{◌≡◌, List, Ok, Some}
use Rattle.cell_types.specs.PinName.{pin_text}
use Rattle.cell_types.specs.Shape.{shape_of}
use Rattle.cell_types.specs.declared.pin_name.PinName.{PinName}
use Rattle.cell_types.specs.declared.shape.Shape.{Shape}
use Rattle.rtl_ir.specs.Faults.Cells.{pin_widths}
use Rattle.rtl_ir.specs.Flat.Cell.{cell_kind}
use Rattle.rtl_ir.specs.Parameters.{given_params, signal_at}
use Rattle.rtl_ir.specs.declared.cell.Cell.{Cell}
use Rattle.rtl_sig.specs.declared.sig.SigBit.{SigBit}

-- the shape is that of the cell
pub record IsShapeOf (c : Cell) (shape : Shape) : Type 0 where
  pub kind : cell_kind c ≡ Some shape.kind
  pub given : shape_of shape.kind (given_params c.params) (pin_widths c.pins) ≡ Ok shape

-- the signal at a pin of a cell
abbrev pub pin_signal : Cell → PinName → List SigBit
pin_signal c name = signal_at c.pins (pin_text name)
