-- When one cone may stand in the place of another.
use Rattle.std.specs.Prelude.{Bool, true, false, ◌&&◌, List, [], ◌∷◌}
use Rattle.rtl_bits.specs.declared.bit.Bit.{Bit}
use Rattle.rtl_bits.specs.declared.bit.Bit.TheVariants.{S0, S1, X}
use Rattle.rtl_bits.specs.Knowledge.{Below}
use Rattle.gate_cones.specs.declared.cone.Cone.{Cone}
use Rattle.gate_cones.specs.declared.row.Leaf.{Leaf}
use Rattle.gate_cones.specs.declared.row.Row.{Row}
use Rattle.gate_cones.specs.Cone.{cone_value}
use Rattle.gate_cones.specs.Row.{IsPlainRow, with_bit}

-- the second cone says no less than the first, in each row of 0, 1 and x
abbrev pub IsBelow : Cone → Cone → Type 0
IsBelow first second = (row : Row) → IsPlainRow row → Below (cone_value first row) (cone_value second row)

-- the test of the order of bits
abbrev pub bit_below : Bit → Bit → Bool
bit_below S0 S0 = true
bit_below S1 S1 = true
bit_below S0 b = false
bit_below S1 b = false
bit_below a b = true

-- the test of two cones, in each row that gives these leaves 0, 1 or x, and the others the bits of a row
abbrev pub below_over : List Leaf → Row → Cone → Cone → Bool
below_over [] row first second = bit_below (cone_value first row) (cone_value second row)
below_over (leaf ∷ leaves) row first second =
    below_over leaves (with_bit row leaf S0) first second
    && (below_over leaves (with_bit row leaf S1) first second
    && below_over leaves (with_bit row leaf X) first second)
