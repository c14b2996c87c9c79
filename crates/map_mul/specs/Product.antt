-- Products of words of one width, a row of gates for each bit.
use Rattle.std.specs.Prelude.{ℕ, ◌+◌, List, [], ◌∷◌, ◌++◌, length, drop, replicate, take}
use Rattle.cell_types.specs.declared.word.BitwiseKind.TheVariants.{And}
use Rattle.rtl_bits.specs.declared.bit.Bit.TheVariants.{S0}
use Rattle.rtl_ir.specs.Build.{Build}
use Rattle.rtl_sig.specs.declared.sig.SigBit.{SigBit}
use Rattle.rtl_sig.specs.declared.sig.SigBit.TheVariants.{Fixed}
use Rattle.gate_nets.specs.Gate.{◌>>=◌, pure}
use Rattle.gate_nets.specs.Sum.{sum_of}
use Rattle.gate_nets.specs.Words.{each_of}
use Rattle.gate_nets.specs.declared.gate.Gate.TheVariants.{Bitwise}

-- a word where a bit is 1, else 0
abbrev pub row_of : List SigBit → SigBit → Build (List SigBit)
row_of bits by = each_of (λ bit. Bitwise And bit by) bits

-- the product so far with the row of the bit at a place: a word is added from this place on, where the bit is 1
unfoldable pub added_row : List SigBit → List SigBit → ℕ → SigBit → Build (List SigBit)
added_row so_far a at by = do
  row ← row_of (take (length (drop at so_far)) a) by
  total ← sum_of (drop at so_far) row (Fixed S0)
  pure (take at so_far ++ total.bits)

-- the product so far with the rows of the bits from a place on
abbrev pub product_from : List SigBit → List SigBit → ℕ → List SigBit → Build (List SigBit)
product_from so_far a at [] = pure so_far
product_from so_far a at (by ∷ bits) = do
  more ← added_row so_far a at by
  product_from more a (at + 1) bits

-- the product of two words, of the width of the first one
abbrev pub product_of : List SigBit → List SigBit → Build (List SigBit)
product_of a b = product_from (replicate (length a) (Fixed S0)) a 0 b
