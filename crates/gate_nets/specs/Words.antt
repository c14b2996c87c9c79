-- Nets that work on words bit by bit, and folds.
use Rattle.std.specs.Prelude.{List, [], ◌∷◌}
use Rattle.rtl_bits.specs.declared.bit.Bit.TheVariants.{S0, S1}
use Rattle.cell_types.specs.declared.word.BitwiseKind.{BitwiseKind}
use Rattle.cell_types.specs.declared.word.BitwiseKind.TheVariants.{And, Or, Xor, Xnor}
use Rattle.rtl_ir.specs.Build.{Build}
use Rattle.rtl_sig.specs.declared.sig.SigBit.{SigBit}
use Rattle.rtl_sig.specs.declared.sig.SigBit.TheVariants.{Fixed}
use Rattle.gate_nets.specs.Gate.{◌>>=◌, pure, gate_of}
use Rattle.gate_nets.specs.declared.gate.Gate.{Gate}
use Rattle.gate_nets.specs.declared.gate.Gate.TheVariants.{Not, Bitwise, Mux}

-- a gate for each bit of a word, from its lowest bit up
abbrev pub each_of : (SigBit → Gate) → List SigBit → Build (List SigBit)
each_of made [] = pure []
each_of made (a ∷ bits) = do
  y ← gate_of (made a)
  ys ← each_of made bits
  pure (y ∷ ys)

-- a gate for each two bits of two words, as far as both go
abbrev pub pairs_of : (SigBit → SigBit → Gate) → List SigBit → List SigBit → Build (List SigBit)
pairs_of made [] bs = pure []
pairs_of made (a ∷ as') [] = pure []
pairs_of made (a ∷ as') (b ∷ bs) = do
  y ← gate_of (made a b)
  ys ← pairs_of made as' bs
  pure (y ∷ ys)

-- the inverse of each bit
abbrev pub inverse_of : List SigBit → Build (List SigBit)
inverse_of bits = each_of Not bits

-- what a kind makes of each two bits
abbrev pub bitwise_of : BitwiseKind → List SigBit → List SigBit → Build (List SigBit)
bitwise_of kind a b = pairs_of (Bitwise kind) a b

-- a where s is 0, b where s is 1
abbrev pub select_of : List SigBit → List SigBit → SigBit → Build (List SigBit)
select_of a b s = pairs_of (λ x y. Mux x y s) a b

-- a kind joins a bit with further ones, from the lowest up
abbrev pub fold_from : BitwiseKind → SigBit → List SigBit → Build SigBit
fold_from kind acc [] = pure acc
fold_from kind acc (b ∷ bits) = do
  y ← gate_of (Bitwise kind acc b)
  fold_from kind y bits

-- what a kind makes of no bits
abbrev pub neutral_of : BitwiseKind → SigBit
neutral_of And = Fixed S1
neutral_of Or = Fixed S0
neutral_of Xor = Fixed S0
neutral_of Xnor = Fixed S1

-- a kind joins the bits of a word
abbrev pub fold_of : BitwiseKind → List SigBit → Build SigBit
fold_of kind [] = pure (neutral_of kind)
fold_of kind (b ∷ bits) = fold_from kind b bits
