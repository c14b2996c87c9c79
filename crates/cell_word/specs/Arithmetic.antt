-- The cells that compute with integers.
use Rattle.std.specs.Prelude.{ℕ, ◌==◌, Bool, not, ◌&&◌, if◌then◌else◌, ℤ, pos, ◌+ℤ◌, ◌-ℤ◌, ◌*ℤ◌, neg_ℤ, int_lt, int_div, int_rem, unsigned_abs, List}
use Rattle.rtl_bits.specs.declared.bit.Bit.{Bit}
use Rattle.rtl_bits.specs.declared.bit.Bit.TheVariants.{S0, S1, X}
use Rattle.rtl_bits.specs.Knowledge.{all_known}
use Rattle.cell_types.specs.declared.word.ArithKind.{ArithKind}
use Rattle.cell_types.specs.declared.word.ArithKind.TheVariants.{Add, Sub, Mul}
use Rattle.cell_types.specs.declared.word.DivisionKind.{DivisionKind}
use Rattle.cell_types.specs.declared.word.DivisionKind.TheVariants.{Div, Mod, DivFloor, ModFloor}
use Rattle.cell_types.specs.declared.word.OrderKind.{OrderKind}
use Rattle.cell_types.specs.declared.word.OrderKind.TheVariants.{Lt, Le, Ge, Gt}
use Rattle.cell_word.specs.Words.{unknown_of}
use Rattle.cell_word.specs.Integers.{integer_in, integer_bits}

-- `$neg`: the two's complement, all x where a bit is unknown
abbrev pub negative_of : Bool → List Bit → ℕ → List Bit
negative_of signed a width =
    if all_known a then integer_bits (neg_ℤ (integer_in signed a)) width else unknown_of width

-- the sum, the difference or the product
abbrev pub result_of : ArithKind → ℤ → ℤ → ℤ
result_of Add a b = a +ℤ b
result_of Sub a b = a -ℤ b
result_of Mul a b = a *ℤ b

-- `$add`, `$sub`, `$mul`: the result modulo 2 to the width, all x where an operand bit is unknown
abbrev pub arith_of : ArithKind → Bool → List Bit → List Bit → ℕ → List Bit
arith_of kind signed a b width =
    if all_known a && all_known b
    then integer_bits (result_of kind (integer_in signed a) (integer_in signed b)) width
    else unknown_of width

-- whether both are negative or neither is
abbrev pub same_sign : ℤ → ℤ → Bool
same_sign a b = if int_lt a (pos 0) then int_lt b (pos 0) else not (int_lt b (pos 0))

-- a quotient that is rounded toward zero lies above the exact one: the division leaves a rest, and
-- the signs differ
abbrev pub rounds_up : ℤ → ℤ → Bool
rounds_up a b = not (unsigned_abs (int_rem a b) == 0) && not (same_sign a b)

-- the quotient rounded down
abbrev pub floor_div : ℤ → ℤ → ℤ
floor_div a b = if rounds_up a b then int_div a b -ℤ pos 1 else int_div a b

-- its remainder, with the sign of the divisor
abbrev pub floor_rem : ℤ → ℤ → ℤ
floor_rem a b = if rounds_up a b then int_rem a b +ℤ b else int_rem a b

-- the quotient or the remainder, rounded toward zero or down
abbrev pub quotient_of : DivisionKind → ℤ → ℤ → ℤ
quotient_of Div a b = int_div a b
quotient_of Mod a b = int_rem a b
quotient_of DivFloor a b = floor_div a b
quotient_of ModFloor a b = floor_rem a b

-- the bits of a quotient or a remainder, all x where the divisor is 0
abbrev pub quotient_bits_of : DivisionKind → ℤ → ℤ → ℕ → List Bit
quotient_bits_of kind a b width =
    if unsigned_abs b == 0 then unknown_of width else integer_bits (quotient_of kind a b) width

-- `$div`, `$mod`, `$divfloor`, `$modfloor`: all x where an operand bit is unknown, too
abbrev pub division_of : DivisionKind → Bool → List Bit → List Bit → ℕ → List Bit
division_of kind signed a b width =
    if all_known a && all_known b
    then quotient_bits_of kind (integer_in signed a) (integer_in signed b) width
    else unknown_of width

-- whether two integers stand in the order of a kind
abbrev pub is_ordered : OrderKind → ℤ → ℤ → Bool
is_ordered Lt a b = int_lt a b
is_ordered Le a b = not (int_lt b a)
is_ordered Ge a b = not (int_lt a b)
is_ordered Gt a b = int_lt b a

-- the bit of `$lt`, `$le`, `$ge`, `$gt`: x where an operand bit is unknown
abbrev pub order_of : OrderKind → Bool → List Bit → List Bit → Bit
order_of kind signed a b =
    if all_known a && all_known b
    then (if is_ordered kind (integer_in signed a) (integer_in signed b) then S1 else S0)
    else X
