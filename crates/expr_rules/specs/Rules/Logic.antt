-- Rules for cells that work bit by bit.
use Rattle.std.specs.Prelude.{◌&&◌, ◌==◌, List, length, Option, None}
use Rattle.std.specs.Option.{option_map, option_map_or}
use Rattle.std.specs.List.{list_all}
use Rattle.rtl_bits.specs.declared.bit.Bit.TheVariants.{S0, S1}
use Rattle.rtl_sig.specs.declared.sig.SigBit.{SigBit}
use Rattle.cell_types.specs.declared.kind.CellKind.{CellKind}
use Rattle.cell_types.specs.declared.shape.Shape.{Shape}
use Rattle.cell_types.specs.declared.word.BitwiseKind.TheVariants.{And, Or, Xor, Xnor}
use Rattle.cell_types.specs.declared.word.UnaryKind.TheVariants.{Not}
use Rattle.cell_types.specs.declared.word.WordKind.{WordKind}
use Rattle.cell_types.specs.declared.word.WordKind.TheVariants.{Unary, Bitwise}
use Rattle.expr_rules.specs.Change.{first_some, inverter, when}
use Rattle.rtl_ir.specs.Signals.{same_signal}
use Rattle.expr_rules.specs.Signals.{filled, is_one, is_zero}
use Rattle.expr_rules.specs.declared.change.Change.{Change}
use Rattle.expr_rules.specs.declared.change.Change.TheVariants.{Gives}
use Rattle.expr_rules.specs.declared.operands.Operands.{Operands}

-- the operand beside one that is all 1
abbrev pub beside_ones : Operands → Option (List SigBit)
beside_ones o = first_some (when (list_all is_one o.right) o.left) (when (list_all is_one o.left) o.right)

-- the operand beside one that is all 0
abbrev pub beside_zeros : Operands → Option (List SigBit)
beside_zeros o = first_some (when (list_all is_zero o.right) o.left) (when (list_all is_zero o.left) o.right)

-- `$and`, one operand all 1: gives the other
abbrev pub and_with_ones : WordKind → Operands → Option Change
and_with_ones (Bitwise And) o = option_map Gives (beside_ones o)
and_with_ones kind o = None

-- `$or`, `$xor`, one operand all 0: gives the other
abbrev pub or_with_zeros : WordKind → Operands → Option Change
or_with_zeros (Bitwise Or) o = option_map Gives (beside_zeros o)
or_with_zeros (Bitwise Xor) o = option_map Gives (beside_zeros o)
or_with_zeros kind o = None

-- `$and`, `$or`, equal operands: gives it
abbrev pub equal_operands : WordKind → Operands → Option Change
equal_operands (Bitwise And) o = when (same_signal o.left o.right) (Gives o.left)
equal_operands (Bitwise Or) o = when (same_signal o.left o.right) (Gives o.left)
equal_operands kind o = None

-- `$xor`, `$xnor`, equal operands: gives all 0, all 1
abbrev pub equal_parity : WordKind → Shape → Operands → Option Change
equal_parity (Bitwise Xor) shape o = when (same_signal o.left o.right) (Gives (filled shape.widths.y S0))
equal_parity (Bitwise Xnor) shape o = when (same_signal o.left o.right) (Gives (filled shape.widths.y S1))
equal_parity kind shape o = None

-- `$xor`, one operand all 1: becomes an inverter of the other
abbrev pub xor_with_ones : WordKind → CellKind → Operands → Option Change
xor_with_ones (Bitwise Xor) own o = option_map (inverter own) (beside_ones o)
xor_with_ones kind own o = None

-- `$not` of the whole Y of a `$not`, all widths equal: gives the inner A
abbrev pub double_not : WordKind → Shape → Operands → Option Change
double_not (Unary Not) shape o =
    option_map_or
    (λ inner. when ((length o.a == shape.widths.y) && (length inner == shape.widths.y)) (Gives inner))
    o.inner None
double_not kind shape o = None
