use Rattle.std.proofs.Common.{◌≡◌, ◌++◌, ◌-◌}
use Rattle.rtl_bits.specs.Numbers.{bits_of}
use Rattle.rtl_bits.proofs.bits.Seq+Bit.from_number.Given as goal

-- the bits so far and those of the rest are the whole
abbrev pub invariant-loop : goal.invariant-loop
invariant-loop l = l.bits ++ bits_of l.rest (l.width - l.counter) ≡ bits_of l.value l.width
