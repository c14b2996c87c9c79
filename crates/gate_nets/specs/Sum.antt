-- Sums of words, by a carry from bit to bit.
use Rattle.std.specs.Prelude.{List, [], ◌∷◌, length, replicate}
use Rattle.rtl_bits.specs.declared.bit.Bit.TheVariants.{S0, S1}
use Rattle.cell_types.specs.declared.word.BitwiseKind.TheVariants.{And, Or, Xor}
use Rattle.rtl_ir.specs.Build.{Build}
use Rattle.rtl_sig.specs.declared.sig.SigBit.{SigBit}
use Rattle.rtl_sig.specs.declared.sig.SigBit.TheVariants.{Fixed}
use Rattle.gate_nets.specs.Gate.{◌>>=◌, pure, gate_of}
use Rattle.gate_nets.specs.Words.{inverse_of}
use Rattle.gate_nets.specs.declared.adder.Total.{Total}
use Rattle.gate_nets.specs.declared.gate.Gate.TheVariants.{Bitwise}

-- a bit of a sum, and the carry
abbrev pub adder_of : SigBit → SigBit → SigBit → Build (SigBit × SigBit)
adder_of a b c = do
  p ← gate_of (Bitwise Xor a b)
  s ← gate_of (Bitwise Xor p c)
  g ← gate_of (Bitwise And a b)
  t ← gate_of (Bitwise And p c)
  carry ← gate_of (Bitwise Or g t)
  pure (s, carry)

-- a total with a further bit below it
abbrev pub above : SigBit → Total → Total
above s rest = record { bits = s ∷ rest.bits; carry = rest.carry }

-- the sum of two words and a carry, as far as both words go
abbrev pub sum_of : List SigBit → List SigBit → SigBit → Build Total
sum_of [] bs c = pure (record { bits = []; carry = c })
sum_of (a ∷ as') [] c = pure (record { bits = []; carry = c })
sum_of (a ∷ as') (b ∷ bs) c = do
  digit ← adder_of a b c
  rest ← sum_of as' bs digit.1
  pure (above digit.0 rest)

-- the two's complement: the inverse and 1
abbrev pub negative_of : List SigBit → Build (List SigBit)
negative_of bits = do
  inverse ← inverse_of bits
  total ← sum_of (replicate (length bits) (Fixed S0)) inverse (Fixed S1)
  pure total.bits
