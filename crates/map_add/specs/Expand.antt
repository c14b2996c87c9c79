-- The gates of a cell, by its kind.
use Rattle.std.specs.Prelude.{Bool, true, false, List, [], ◌∷◌, if◌then◌else◌}
use Rattle.cell_types.specs.declared.kind.CellKind.{CellKind}
use Rattle.cell_types.specs.declared.kind.CellKind.TheVariants.{Word}
use Rattle.cell_types.specs.declared.pin_name.PinName.TheVariants.{A, B, Y}
use Rattle.cell_types.specs.declared.shape.Shape.{Shape}
use Rattle.cell_types.specs.declared.word.ArithKind.{ArithKind}
use Rattle.cell_types.specs.declared.word.ArithKind.TheVariants.{Add, Sub}
use Rattle.cell_types.specs.declared.word.OrderKind.{OrderKind}
use Rattle.cell_types.specs.declared.word.UnaryKind.TheVariants.{Neg}
use Rattle.cell_types.specs.declared.word.WordKind.TheVariants.{Unary, Arith, Order}
use Rattle.cell_word.specs.Values.{both_signed}
use Rattle.rtl_ir.specs.Build.{Build, Building}
use Rattle.rtl_ir.specs.declared.cell.Cell.{Cell}
use Rattle.rtl_sig.specs.declared.sig.SigBit.{SigBit}
use Rattle.map_laws.specs.Operand.{pin_signal}
use Rattle.gate_nets.specs.Gate.{◌>>=◌, pure}
use Rattle.gate_nets.specs.Give.{given}
use Rattle.gate_nets.specs.Operand.{greater_width, operand_of}
use Rattle.gate_nets.specs.Sum.{negative_of}
use Rattle.map_add.specs.Order.{order_of}
use Rattle.map_add.specs.Sum.{arith_of}

-- a kind becomes gates here
abbrev pub is_mapped : CellKind → Bool
is_mapped (Word (Unary Neg)) = true
is_mapped (Word (Arith Add)) = true
is_mapped (Word (Arith Sub)) = true
is_mapped (Word (Order kind)) = true
is_mapped kind = false

-- the negative of the operand
abbrev pub negated_of : Shape → Cell → Build (List SigBit)
negated_of shape c = negative_of (operand_of c A shape.widths.y shape.signs.a)

-- the sum or the difference of the operands, of the width of Y
abbrev pub arithmetic_of : ArithKind → Shape → Cell → Build (List SigBit)
arithmetic_of kind shape c =
    arith_of kind (operand_of c A shape.widths.y (both_signed shape)) (operand_of c B shape.widths.y (both_signed shape))

-- the bit of an order cell
abbrev pub ordered_of : OrderKind → Shape → Cell → Build (List SigBit)
ordered_of kind shape c = do
  y ← order_of kind (both_signed shape) (operand_of c A (greater_width c) (both_signed shape)) (operand_of c B (greater_width c) (both_signed shape))
  pure (y ∷ [])

-- the net of the value of a cell
abbrev pub value_of : CellKind → Shape → Cell → Build (List SigBit)
value_of (Word (Unary Neg)) shape c = negated_of shape c
value_of (Word (Arith kind)) shape c = arithmetic_of kind shape c
value_of (Word (Order kind)) shape c = ordered_of kind shape c
value_of kind shape c = pure []

-- what a cell of this shape becomes
abbrev pub map_of : Shape → Cell → Building → Building
map_of shape c b = if is_mapped shape.kind then given (pin_signal c Y) (value_of shape.kind shape c) b else b
