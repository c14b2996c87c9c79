-- The gates of a cell, by its kind.
use Rattle.std.specs.Prelude.{ℕ, Bool, true, false, List, [], if◌then◌else◌, length, max}
use Rattle.cell_types.specs.declared.kind.CellKind.{CellKind}
use Rattle.cell_types.specs.declared.kind.CellKind.TheVariants.{Word}
use Rattle.cell_types.specs.declared.pin_name.PinName.{PinName}
use Rattle.cell_types.specs.declared.pin_name.PinName.TheVariants.{A, B, Y}
use Rattle.cell_types.specs.declared.shape.Shape.{Shape}
use Rattle.cell_types.specs.declared.word.ArithKind.TheVariants.{Mul}
use Rattle.cell_types.specs.declared.word.DivisionKind.{DivisionKind}
use Rattle.cell_types.specs.declared.word.WordKind.TheVariants.{Arith, Division}
use Rattle.cell_word.specs.Values.{both_signed}
use Rattle.rtl_ir.specs.Build.{Build, Building}
use Rattle.rtl_ir.specs.declared.cell.Cell.{Cell}
use Rattle.rtl_sig.specs.Signal.{extended}
use Rattle.rtl_sig.specs.declared.sig.SigBit.{SigBit}
use Rattle.gate_nets.specs.Gate.{pure}
use Rattle.gate_nets.specs.Give.{give_to}
use Rattle.map_laws.specs.Operand.{pin_signal}
use Rattle.gate_divide.specs.Kinds.{divide_of}
use Rattle.map_mul.specs.Product.{product_of}

-- a kind becomes gates here
abbrev pub is_mapped : CellKind → Bool
is_mapped (Word (Arith Mul)) = true
is_mapped (Word (Division kind)) = true
is_mapped kind = false

-- an operand at a width, as signed where both operands are
abbrev pub operand_of : Shape → Cell → PinName → ℕ → List SigBit
operand_of shape c name width = extended (pin_signal c name) width (both_signed shape)

-- the product of the operands, of the width of Y
abbrev pub multiplied_of : Shape → Cell → Build (List SigBit)
multiplied_of shape c = product_of (operand_of shape c A shape.widths.y) (operand_of shape c B shape.widths.y)

-- the width to which the operands of a division are extended
abbrev pub greatest_width : Shape → Cell → ℕ
greatest_width shape c = max (max (length (pin_signal c A)) (length (pin_signal c B))) shape.widths.y

-- the quotient or the remainder of the operands, of their greatest width
abbrev pub divided_of : DivisionKind → Shape → Cell → Build (List SigBit)
divided_of kind shape c =
    divide_of kind (both_signed shape) (operand_of shape c A (greatest_width shape c)) (operand_of shape c B (greatest_width shape c))

-- the net of the value of a cell
abbrev pub value_of : CellKind → Shape → Cell → Build (List SigBit)
value_of (Word (Arith Mul)) shape c = multiplied_of shape c
value_of (Word (Division kind)) shape c = divided_of kind shape c
value_of kind shape c = pure []

-- a net, and its result given to the output of a cell
abbrev pub given : Build (List SigBit) → Cell → Building → Building
given net c b = give_to (pin_signal c Y) (net b).0 (net b).1

-- what a cell of this shape becomes
abbrev pub map_of : Shape → Cell → Building → Building
map_of shape c b = if is_mapped shape.kind then given (value_of shape.kind shape c) c b else b
