use Rattle.std.proofs.Common.{◌≡◌, drop}
use Rattle.rtl_bits.specs.Knowledge.{AreKnown}
use Rattle.rtl_bits.specs.Numbers.{number_of}
use Rattle.rtl_bits.proofs.bits.Seq+Bit.unsigned.Given as goal

-- the bits from here up are known, and the number is theirs
abbrev pub invariant-loop-at : goal.invariant-loop-at
invariant-loop-at l = AreKnown (drop l.at l.bits) × (l.number ≡ number_of (drop l.at l.bits))
