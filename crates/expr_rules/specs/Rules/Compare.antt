-- The rule for compares.
use Rattle.std.specs.Prelude.{ℕ, ◌==◌, ◌&&◌, List, [], ◌∷◌, length, Option, Some, None, if◌then◌else◌}
use Rattle.rtl_bits.specs.declared.bit.Bit.{Bit}
use Rattle.rtl_bits.specs.declared.bit.Bit.TheVariants.{S0, S1}
use Rattle.rtl_sig.specs.declared.sig.SigBit.{SigBit}
use Rattle.rtl_sig.specs.declared.sig.SigBit.TheVariants.{Fixed}
use Rattle.cell_types.specs.declared.kind.CellKind.{CellKind}
use Rattle.cell_types.specs.declared.shape.Shape.{Shape}
use Rattle.cell_types.specs.declared.word.EqualKind.{EqualKind}
use Rattle.cell_types.specs.declared.word.EqualKind.TheVariants.{Eq, Ne}
use Rattle.cell_types.specs.declared.word.OrderKind.{OrderKind}
use Rattle.cell_types.specs.declared.word.OrderKind.TheVariants.{Lt, Le, Ge, Gt}
use Rattle.cell_types.specs.declared.word.WordKind.{WordKind}
use Rattle.cell_types.specs.declared.word.WordKind.TheVariants.{Equal, Order}
use Rattle.expr_rules.specs.Change.{first_some, inverter, when}
use Rattle.rtl_ir.specs.Signals.{same_signal}
use Rattle.expr_rules.specs.Signals.{is_bit}
use Rattle.expr_rules.specs.declared.change.Change.{Change}
use Rattle.expr_rules.specs.declared.change.Change.TheVariants.{Gives}
use Rattle.expr_rules.specs.declared.operands.Operands.{Operands}

-- what an order says of equal operands
abbrev pub of_equals : OrderKind → Bit
of_equals Lt = S0
of_equals Le = S1
of_equals Ge = S1
of_equals Gt = S0

-- the constant beside which a compare of one bit is the other operand, and the one beside which it is its inverse
abbrev pub passing : EqualKind → Bit
passing Eq = S1
passing Ne = S0

abbrev pub turning : EqualKind → Bit
turning Eq = S0
turning Ne = S1

-- a compare of two bits of which one may be a constant
abbrev pub beside_bit : EqualKind → CellKind → ℕ → List SigBit → List SigBit → Option Change
beside_bit kind own width constant other =
    if is_bit (passing kind) constant then Some (Gives other)
    else when (is_bit (turning kind) constant && (width == 1)) (inverter own other)

-- operands of one bit, one of them a known constant: gives the other, or, with one bit of Y, becomes its inverse
abbrev pub one_bit_compare : EqualKind → CellKind → Shape → Operands → Option Change
one_bit_compare kind own shape o =
    if (length o.left == 1) && (length o.right == 1)
    then first_some (beside_bit kind own shape.widths.y o.right o.left) (beside_bit kind own shape.widths.y o.left o.right)
    else None

-- `$eq $le $ge`, or `$ne $lt $gt`, equal operands: gives 1 or 0; `$eq`, `$ne` of one bit with a known constant
abbrev pub compare : WordKind → CellKind → Shape → Operands → Option Change
compare (Equal kind) own shape o =
    if same_signal o.left o.right then Some (Gives (Fixed (passing kind) ∷ []))
    else one_bit_compare kind own shape o
compare (Order kind) own shape o = when (same_signal o.left o.right) (Gives (Fixed (of_equals kind) ∷ []))
compare kind own shape o = None
