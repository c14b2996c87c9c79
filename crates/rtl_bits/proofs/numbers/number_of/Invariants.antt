-- The number of the bits from here up.
use Rattle.std.proofs.Common.{◌≡◌, drop}
use Rattle.rtl_bits.specs.Numbers.{number_of}
use Rattle.rtl_bits.proofs.numbers.number_of.Given as goal

abbrev pub invariant-loop-at : goal.invariant-loop-at
invariant-loop-at l = l.number ≡ number_of (drop l.at l.bits)
