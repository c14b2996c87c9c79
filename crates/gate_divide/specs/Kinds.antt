-- Quotients and remainders by their kind.
use Rattle.std.specs.Prelude.{Bool, true, false, List}
use Rattle.cell_types.specs.declared.word.DivisionKind.{DivisionKind}
use Rattle.cell_types.specs.declared.word.DivisionKind.TheVariants.{Div, Mod, DivFloor, ModFloor}
use Rattle.rtl_ir.specs.Build.{Build}
use Rattle.rtl_sig.specs.declared.sig.SigBit.{SigBit}
use Rattle.gate_nets.specs.Gate.{◌>>=◌, pure}
use Rattle.gate_divide.specs.Division.{divided_of}
use Rattle.gate_divide.specs.Rounding.{floor_quotient_of, floor_remainder_of, remainder_of, truncated_of}
use Rattle.gate_divide.specs.Signs.{magnitude_of}
use Rattle.gate_divide.specs.declared.division.Division.{Division}

-- the part of a division of plain numbers that a kind asks for
abbrev pub part_of : DivisionKind → Division → List SigBit
part_of Div division = division.quotient
part_of Mod division = division.rest
part_of DivFloor division = division.quotient
part_of ModFloor division = division.rest

-- the division of plain numbers
abbrev pub unsigned_of : DivisionKind → List SigBit → List SigBit → Build (List SigBit)
unsigned_of kind a b = do
  division ← divided_of a b
  pure (part_of kind division)

-- what a kind asks for, of two integers whose magnitudes are divided
abbrev pub rounded_of : DivisionKind → List SigBit → List SigBit → Division → Build (List SigBit)
rounded_of Div a b division = truncated_of a b division.quotient
rounded_of Mod a b division = remainder_of a division.rest
rounded_of DivFloor a b division = floor_quotient_of a b division.quotient division.rest
rounded_of ModFloor a b division = floor_remainder_of a b division.rest

-- the division of integers in two's complement
abbrev pub signed_of : DivisionKind → List SigBit → List SigBit → Build (List SigBit)
signed_of kind a b = do
  dividend ← magnitude_of a
  divisor ← magnitude_of b
  division ← divided_of dividend divisor
  rounded_of kind a b division

-- the quotient or the remainder of two words of one width
abbrev pub divide_of : DivisionKind → Bool → List SigBit → List SigBit → Build (List SigBit)
divide_of kind true a b = signed_of kind a b
divide_of kind false a b = unsigned_of kind a b
