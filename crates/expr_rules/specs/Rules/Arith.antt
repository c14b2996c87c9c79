-- Rules for sums, products and quotients.
use Rattle.std.specs.Prelude.{ℕ, zero, suc, List, [], ◌∷◌, ◌++◌, take, drop, Option, Some, None, if◌then◌else◌}
use Rattle.std.specs.Option.{option_map}
use Rattle.std.specs.List.{list_all}
use Rattle.rtl_bits.specs.declared.bit.Bit.TheVariants.{S0}
use Rattle.rtl_sig.specs.declared.sig.SigBit.{SigBit}
use Rattle.cell_types.specs.declared.shape.Shape.{Shape}
use Rattle.cell_types.specs.declared.word.ArithKind.TheVariants.{Add, Sub, Mul}
use Rattle.cell_types.specs.declared.word.DivisionKind.{DivisionKind}
use Rattle.cell_types.specs.declared.word.DivisionKind.TheVariants.{Div, Mod, DivFloor, ModFloor}
use Rattle.cell_types.specs.declared.word.WordKind.{WordKind}
use Rattle.cell_types.specs.declared.word.WordKind.TheVariants.{Arith, Division}
use Rattle.cell_word.specs.Values.{both_signed}
use Rattle.expr_rules.specs.Change.{first_some, when}
use Rattle.expr_rules.specs.Rules.Logic.{beside_zeros}
use Rattle.rtl_ir.specs.Signals.{same_signal}
use Rattle.expr_rules.specs.Signals.{filled, is_one, is_zero}
use Rattle.expr_rules.specs.declared.change.Change.{Change}
use Rattle.expr_rules.specs.declared.change.Change.TheVariants.{Gives}
use Rattle.expr_rules.specs.declared.operands.Operands.{Operands}

-- `$add` with a zero operand, `$sub` with B zero: gives the other
abbrev pub add_zero : WordKind → Operands → Option Change
add_zero (Arith Add) o = option_map Gives (beside_zeros o)
add_zero (Arith Sub) o = when (list_all is_zero o.right) (Gives o.left)
add_zero kind o = None

-- `$sub`, equal operands: gives 0
abbrev pub equal_difference : WordKind → Shape → Operands → Option Change
equal_difference (Arith Sub) shape o = when (same_signal o.left o.right) (Gives (filled shape.widths.y S0))
equal_difference kind shape o = None

-- the place of the one bit that is 1 in a word of constants, where all others are 0
abbrev pub power_of : List SigBit → Option ℕ
power_of [] = None
power_of (b ∷ word) =
    if is_one b then when (list_all is_zero word) 0
    else if is_zero b then option_map suc (power_of word)
    else None

-- a word moved up by a number of places
abbrev pub moved_up : ℕ → List SigBit → List SigBit
moved_up places word = filled places S0 ++ word

-- a product with a factor of 0 or 1
abbrev pub times_small : Shape → List SigBit → Option ℕ → List SigBit → Option Change
times_small shape factor (Some zero) other = Some (Gives other)
times_small shape factor power other = when (list_all is_zero factor) (Gives (filled shape.widths.y S0))

-- `$mul` by 0 or 1: gives 0 or the other
abbrev pub mul_by_bit : WordKind → Shape → Operands → Option Change
mul_by_bit (Arith Mul) shape o =
    first_some (times_small shape o.right (power_of o.right) o.left) (times_small shape o.left (power_of o.left) o.right)
mul_by_bit kind shape o = None

-- `$mul` by a power of two: gives the other moved up
abbrev pub mul_by_power : WordKind → Operands → Option Change
mul_by_power (Arith Mul) o =
    first_some (option_map (λ places. Gives (moved_up places o.left)) (power_of o.right))
    (option_map (λ places. Gives (moved_up places o.right)) (power_of o.left))
mul_by_power kind o = None

-- the quotient or the remainder by a power of two: the upper or the lower bits
abbrev pub quotient_by : DivisionKind → List SigBit → ℕ → List SigBit
quotient_by Div word places = drop places word
quotient_by DivFloor word places = drop places word
quotient_by Mod word places = take places word
quotient_by ModFloor word places = take places word

-- the division cells, not both signed, B a constant power of two: gives the upper or lower bits of A
abbrev pub divide_by_power : WordKind → Shape → Operands → Option Change
divide_by_power (Division kind) shape o =
    if both_signed shape then None
    else option_map (λ places. Gives (quotient_by kind o.left places)) (power_of o.right)
divide_by_power kind shape o = None
