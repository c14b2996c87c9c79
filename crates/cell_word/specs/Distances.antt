-- Distances of shifts as the code holds them: a side and a size that is cut off far past each width.
use Rattle.std.specs.Prelude.{◌≡◌, ℕ, ◌+◌, ◌-◌, ◌^◌, min, nat_le, Bool, true, false, if◌then◌else◌, ℤ, List, map}
use Rattle.rtl_bits.specs.declared.bit.Bit.{Bit}
use Rattle.rtl_bits.specs.Tables.{seen_of, not_of}
use Rattle.rtl_bits.specs.Numbers.{number_of}
use Rattle.cell_types.specs.declared.word.ShiftKind.{ShiftKind}
use Rattle.cell_word.specs.declared.shift.Distance.{Distance}
use Rattle.cell_word.specs.Sizes.{signed_of}
use Rattle.cell_word.specs.Shifts.{read_at, below_of}

-- a bit, or its inverse
abbrev pub flipped : Bool → Bit → Bit
flipped true b = not_of b
flipped false b = b

-- a number of bits or of their inverses, cut off
abbrev pub far_of : Bool → List Bit → ℕ
far_of inverse bits = min (number_of (map (flipped inverse) bits)) (2 ^ 32)

-- a distance stands for an integer
pub record IsDistance (d : Distance) (z : ℤ) : Type 0 where
  pub size : ℕ
  pub cut : min size (2 ^ 32) ≡ d.size
  pub value : signed_of d.below size ≡ z

-- what a kind reads for a place at a distance
abbrev pub read_by : ShiftKind → Bool → List Bit → ℕ → Distance → ℕ → Bit
read_by kind signed a width d at =
    if d.below
    then (if nat_le d.size at then seen_of (read_at kind signed a width (at - d.size)) else below_of kind)
    else seen_of (read_at kind signed a width (at + d.size))
