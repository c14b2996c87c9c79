-- Sums and differences of words of one width.
use Rattle.std.specs.Prelude.{List, []}
use Rattle.cell_types.specs.declared.word.ArithKind.{ArithKind}
use Rattle.cell_types.specs.declared.word.ArithKind.TheVariants.{Add, Sub, Mul}
use Rattle.rtl_bits.specs.declared.bit.Bit.TheVariants.{S0, S1}
use Rattle.rtl_ir.specs.Build.{Build}
use Rattle.rtl_sig.specs.declared.sig.SigBit.{SigBit}
use Rattle.rtl_sig.specs.declared.sig.SigBit.TheVariants.{Fixed}
use Rattle.gate_nets.specs.Gate.{◌>>=◌, pure}
use Rattle.gate_nets.specs.Sum.{sum_of}
use Rattle.gate_nets.specs.Words.{inverse_of}
use Rattle.gate_nets.specs.declared.adder.Total.{Total}

-- a word less another one: the sum with its inverse and 1; the carry is 1 where nothing is borrowed
abbrev pub difference_of : List SigBit → List SigBit → Build Total
difference_of a b = do
  inverse ← inverse_of b
  sum_of a inverse (Fixed S1)

-- the sum, or the difference; a product is not made here
abbrev pub arith_of : ArithKind → List SigBit → List SigBit → Build (List SigBit)
arith_of Add a b = do
  total ← sum_of a b (Fixed S0)
  pure total.bits
arith_of Sub a b = do
  total ← difference_of a b
  pure total.bits
arith_of Mul a b = pure []
