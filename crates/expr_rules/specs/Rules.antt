-- The rules, in order, and what each puts in a cell's place.
pub mod Constants
pub mod Wiring
pub mod Mux
pub mod Logic
pub mod Arith
pub mod Shift
pub mod Compare
pub mod Fold
pub mod Parts
use Rattle.std.specs.Prelude.{List, [], ◌∷◌, Option, Some, None}
use Rattle.std.specs.Option.{option_map}
use Rattle.cell_types.specs.declared.shape.Shape.{Shape}
use Rattle.cell_types.specs.declared.word.WordKind.{WordKind}
use Rattle.expr_rules.specs.Change.{first_some, fitted}
use Rattle.expr_rules.specs.Operands.{counted_as}
use Rattle.expr_rules.specs.Rules.Arith.{add_zero, divide_by_power, equal_difference, mul_by_bit, mul_by_power}
use Rattle.expr_rules.specs.Rules.Compare.{compare}
use Rattle.expr_rules.specs.Rules.Constants.{constant_inputs, known_value}
use Rattle.expr_rules.specs.Rules.Fold.{one_bit}
use Rattle.expr_rules.specs.Rules.Logic.{and_with_ones, double_not, equal_operands, equal_parity, or_with_zeros, xor_with_ones}
use Rattle.expr_rules.specs.Rules.Mux.{equal_arms, equal_words, inverted_select, known_select, known_selects, select_inverse, select_itself, unknown_arm}
use Rattle.expr_rules.specs.Rules.Parts.{known_part, known_place}
use Rattle.expr_rules.specs.Rules.Shift.{known_shift}
use Rattle.expr_rules.specs.Rules.Wiring.{buffer, wiring}
use Rattle.expr_rules.specs.declared.change.Change.{Change}
use Rattle.expr_rules.specs.declared.operands.Operands.{Operands}
use Rattle.expr_rules.specs.declared.rules.Rule.{Rule}
use Rattle.expr_rules.specs.declared.rules.Rule.TheVariants as By

-- what a rule puts in the place of a cell that counts as a word cell of a kind, where it fits
abbrev pub result_by : Rule → WordKind → Shape → Operands → Option Change
result_by By.ConstantInputs kind shape o = constant_inputs shape o
result_by By.KnownValue kind shape o = known_value shape o
result_by By.Buffer kind shape o = buffer kind o
result_by By.Wiring kind shape o = wiring kind shape o
result_by By.KnownSelect kind shape o = known_select kind o
result_by By.EqualArms kind shape o = equal_arms kind o
result_by By.UnknownArm kind shape o = unknown_arm kind o
result_by By.SelectItself kind shape o = select_itself kind o
result_by By.SelectInverse kind shape o = select_inverse kind shape.kind o
result_by By.InvertedSelect kind shape o = inverted_select kind shape.kind o
result_by By.AndWithOnes kind shape o = and_with_ones kind o
result_by By.OrWithZeros kind shape o = or_with_zeros kind o
result_by By.EqualOperands kind shape o = equal_operands kind o
result_by By.EqualParity kind shape o = equal_parity kind shape o
result_by By.XorWithOnes kind shape o = xor_with_ones kind shape.kind o
result_by By.DoubleNot kind shape o = double_not kind shape o
result_by By.AddZero kind shape o = add_zero kind o
result_by By.EqualDifference kind shape o = equal_difference kind shape o
result_by By.MulByBit kind shape o = mul_by_bit kind shape o
result_by By.MulByPower kind shape o = mul_by_power kind o
result_by By.DivideByPower kind shape o = divide_by_power kind shape o
result_by By.KnownShift kind shape o = known_shift kind shape o
result_by By.Compare kind shape o = compare kind shape.kind shape o
result_by By.OneBit kind shape o = one_bit kind shape.kind shape o
result_by By.KnownSelects kind shape o = known_selects kind shape o
result_by By.EqualWords kind shape o = equal_words kind o
result_by By.KnownPart kind shape o = known_part kind shape o
result_by By.KnownPlace kind shape o = known_place kind o

-- the same where the cell counts as none: such a gate knows the rules on its value alone
abbrev pub result_of_gate : Rule → Shape → Operands → Option Change
result_of_gate By.ConstantInputs shape o = constant_inputs shape o
result_of_gate By.KnownValue shape o = known_value shape o
result_of_gate rule shape o = None

-- what a rule puts in the place of a cell, where it fits
abbrev pub result_as : Option WordKind → Rule → Shape → Operands → Option Change
result_as (Some kind) rule shape o = result_by rule kind shape o
result_as None rule shape o = result_of_gate rule shape o

-- the same by the kind of the cell
abbrev pub result_of : Rule → Shape → Operands → Option Change
result_of rule shape o = result_as (counted_as shape.kind) rule shape o

-- the order of the rules
abbrev pub rules_in_order : List Rule
rules_in_order =
    By.ConstantInputs
    ∷ By.KnownValue
    ∷ By.Buffer
    ∷ By.Wiring
    ∷ By.KnownSelect
    ∷ By.EqualArms
    ∷ By.UnknownArm
    ∷ By.SelectItself
    ∷ By.SelectInverse
    ∷ By.InvertedSelect
    ∷ By.AndWithOnes
    ∷ By.OrWithZeros
    ∷ By.EqualOperands
    ∷ By.EqualParity
    ∷ By.XorWithOnes
    ∷ By.DoubleNot
    ∷ By.AddZero
    ∷ By.EqualDifference
    ∷ By.MulByBit
    ∷ By.MulByPower
    ∷ By.DivideByPower
    ∷ By.KnownShift
    ∷ By.Compare
    ∷ By.OneBit
    ∷ By.KnownSelects
    ∷ By.EqualWords
    ∷ By.KnownPart
    ∷ By.KnownPlace
    ∷ []

-- the result of the first of these rules that fits
abbrev pub first_of : List Rule → Shape → Operands → Option Change
first_of [] shape o = None
first_of (rule ∷ rules) shape o = first_some (result_of rule shape o) (first_of rules shape o)

-- what comes in the place of a cell of a shape with these operands, where a rule fits
abbrev pub change_of : Shape → Operands → Option Change
change_of shape o = option_map (fitted shape.widths.y) (first_of rules_in_order shape o)
