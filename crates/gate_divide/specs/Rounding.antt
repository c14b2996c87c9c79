-- Quotients and remainders of integers, rounded toward zero or down, from those of their magnitudes.
use Rattle.std.specs.Prelude.{List, length, replicate}
use Rattle.cell_types.specs.declared.word.BitwiseKind.TheVariants.{And, Or, Xor}
use Rattle.rtl_bits.specs.declared.bit.Bit.TheVariants.{S0, S1}
use Rattle.rtl_ir.specs.Build.{Build}
use Rattle.rtl_sig.specs.declared.sig.SigBit.{SigBit}
use Rattle.rtl_sig.specs.declared.sig.SigBit.TheVariants.{Fixed}
use Rattle.gate_nets.specs.Gate.{◌>>=◌, gate_of}
use Rattle.gate_nets.specs.Sum.{sum_of}
use Rattle.gate_nets.specs.Words.{fold_of, select_of}
use Rattle.gate_nets.specs.declared.gate.Gate.TheVariants.{Bitwise}
use Rattle.gate_divide.specs.Signs.{negated_where, top_of}

-- whether one of two integers is negative and the other is not
abbrev pub signs_differ : List SigBit → List SigBit → Build SigBit
signs_differ a b = gate_of (Bitwise Xor (top_of a) (top_of b))

-- the quotient rounded toward zero: it is negative where the signs differ
unfoldable pub truncated_of : List SigBit → List SigBit → List SigBit → Build (List SigBit)
truncated_of a b quotient = do
  differ ← signs_differ a b
  negated_where quotient differ

-- its remainder: it has the sign of a
unfoldable pub remainder_of : List SigBit → List SigBit → Build (List SigBit)
remainder_of a rest = negated_where rest (top_of a)

-- whether the quotient rounded toward zero lies above the exact one: something remains, and the signs differ
unfoldable pub is_rounded_of : List SigBit → SigBit → Build SigBit
is_rounded_of remainder differ = do
  some ← fold_of Or remainder
  gate_of (Bitwise And some differ)

-- a word, or one less where a bit is 1
unfoldable pub lowered_where : List SigBit → SigBit → Build (List SigBit)
lowered_where whole rounded = do
  less ← sum_of whole (replicate (length whole) (Fixed S1)) (Fixed S0)
  select_of whole less.bits rounded

-- the quotient rounded down, by whether the signs differ: one less in that case
unfoldable pub lowered_of : List SigBit → SigBit → List SigBit → List SigBit → Build (List SigBit)
lowered_of a differ quotient rest = do
  whole ← negated_where quotient differ
  left ← remainder_of a rest
  rounded ← is_rounded_of left differ
  lowered_where whole rounded

-- the quotient rounded down
unfoldable pub floor_quotient_of : List SigBit → List SigBit → List SigBit → List SigBit → Build (List SigBit)
floor_quotient_of a b quotient rest = do
  differ ← signs_differ a b
  lowered_of a differ quotient rest

-- its remainder: b is added in that case
unfoldable pub floor_remainder_of : List SigBit → List SigBit → List SigBit → Build (List SigBit)
floor_remainder_of a b rest = do
  differ ← signs_differ a b
  left ← remainder_of a rest
  rounded ← is_rounded_of left differ
  more ← sum_of left b (Fixed S0)
  select_of left more.bits rounded
