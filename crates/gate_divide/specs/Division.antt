-- Quotients of plain numbers, bit by bit from the top down.
use Rattle.std.specs.Prelude.{List, [], ◌∷◌, ◌++◌, length, replicate, take}
use Rattle.rtl_bits.specs.declared.bit.Bit.TheVariants.{S0, S1}
use Rattle.rtl_ir.specs.Build.{Build}
use Rattle.rtl_sig.specs.declared.sig.SigBit.{SigBit}
use Rattle.rtl_sig.specs.declared.sig.SigBit.TheVariants.{Fixed}
use Rattle.gate_nets.specs.Gate.{◌>>=◌, pure}
use Rattle.gate_nets.specs.Sum.{sum_of}
use Rattle.gate_nets.specs.Words.{inverse_of, select_of}
use Rattle.gate_nets.specs.declared.adder.Total.{Total}
use Rattle.gate_divide.specs.declared.division.Division.{Division}

-- a word less the divisor with a 0 above it; the carry is 1 where the divisor is no greater
unfoldable pub less_of : List SigBit → List SigBit → Build Total
less_of wide divisor = do
  inverse ← inverse_of (divisor ++ Fixed S0 ∷ [])
  sum_of wide inverse (Fixed S1)

-- a bit of the quotient, and what is then left: the divisor is taken off where it is no greater than the rest so far with the
-- next bit of the dividend below it
unfoldable pub digit_of : SigBit → List SigBit → List SigBit → Build (SigBit × List SigBit)
digit_of bit rest divisor = do
  total ← less_of (bit ∷ rest) divisor
  chosen ← select_of (bit ∷ rest) total.bits total.carry
  pure (total.carry, take (length divisor) chosen)

-- the quotient of two plain numbers, and what is left: first of the bits above the lowest one
abbrev pub divided_of : List SigBit → List SigBit → Build Division
divided_of [] divisor = pure (record { quotient = []; rest = replicate (length divisor) (Fixed S0) })
divided_of (bit ∷ dividend) divisor = do
  above ← divided_of dividend divisor
  digit ← digit_of bit above.rest divisor
  pure (record { quotient = digit.0 ∷ above.quotient; rest = digit.1 })
