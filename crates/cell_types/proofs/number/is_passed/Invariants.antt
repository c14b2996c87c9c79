use Rattle.std.proofs.Common.{◌≡◌, ◌+◌, ◌-◌, min, drop}
use Rattle.rtl_bits.specs.Numbers.{number_of}
use Rattle.cell_types.proofs.number.is_passed.Given as goal

-- what the bound has over the sum, of the bits from `at` on
abbrev pub invariant-loop-at : goal.invariant-loop-at
invariant-loop-at l =
    l.room ≡ min (number_of (drop l.at l.bound) + 1 - (number_of (drop l.at l.low) + number_of (drop l.at l.more))) 3

abbrev pub decreases-loop-at : goal.decreases-loop-at
decreases-loop-at l = l.at
