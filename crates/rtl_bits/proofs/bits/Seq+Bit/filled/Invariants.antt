use Rattle.std.proofs.Common.{◌≡◌, replicate}
use Rattle.rtl_bits.proofs.bits.Seq+Bit.filled.Given as goal

-- there are as many copies as rounds
abbrev pub invariant-loop : goal.invariant-loop
invariant-loop l = l.bits ≡ replicate l.counter l.bit
