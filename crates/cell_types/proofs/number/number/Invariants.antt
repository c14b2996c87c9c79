use Rattle.std.proofs.Common.{◌≡◌, ◌≤◌, ◌^◌, length, min, drop}
use Rattle.rtl_bits.specs.Numbers.{number_of}
use Rattle.cell_types.proofs.number.number.Given as goal

-- the number of the bits from `at` on
abbrev pub invariant-loop-at : goal.invariant-loop-at
invariant-loop-at l = (l.at ≤ length l.bits) × (l.number ≡ min (number_of (drop l.at l.bits)) (2 ^ 64))

abbrev pub decreases-loop-at : goal.decreases-loop-at
decreases-loop-at l = l.at
