-- The number of the bits from the place on.
use Rattle.std.proofs.Common.{◌≡◌, drop}
use Rattle.rtl_bits.specs.Numbers.{number_of}
use Rattle.net_index.proofs.builder_params.char_of.Given as goal

abbrev pub invariant-loop-at : goal.invariant-loop-at
invariant-loop-at l = l.number ≡ number_of (drop l.at l.bits)
