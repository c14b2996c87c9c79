-- The order of two words of one width.
use Rattle.std.specs.Prelude.{Bool, true, false, List, [], ◌∷◌}
use Rattle.cell_types.specs.declared.word.OrderKind.{OrderKind}
use Rattle.cell_types.specs.declared.word.OrderKind.TheVariants.{Lt, Le, Ge, Gt}
use Rattle.rtl_ir.specs.Build.{Build}
use Rattle.rtl_sig.specs.declared.sig.SigBit.{SigBit}
use Rattle.gate_nets.specs.Gate.{◌>>=◌, pure, gate_of}
use Rattle.gate_nets.specs.declared.gate.Gate.TheVariants.{Not}
use Rattle.map_add.specs.Sum.{difference_of}

-- a word with its top bit inverted
abbrev pub top_inverted : List SigBit → Build (List SigBit)
top_inverted [] = pure []
top_inverted (a ∷ []) = do
  y ← gate_of (Not a)
  pure (y ∷ [])
top_inverted (a ∷ b ∷ bits) = do
  ys ← top_inverted (b ∷ bits)
  pure (a ∷ ys)

-- a word as numbers are compared: of a signed one the top bit is inverted, so that negative numbers come first
abbrev pub ranked_of : Bool → List SigBit → Build (List SigBit)
ranked_of true bits = top_inverted bits
ranked_of false bits = pure bits

-- whether a is less than b: the difference has no carry
abbrev pub less_of : Bool → List SigBit → List SigBit → Build SigBit
less_of signed a b = do
  x ← ranked_of signed a
  y ← ranked_of signed b
  total ← difference_of x y
  gate_of (Not total.carry)

-- whether a is not less than b
abbrev pub not_less_of : Bool → List SigBit → List SigBit → Build SigBit
not_less_of signed a b = do
  less ← less_of signed a b
  gate_of (Not less)

-- whether two words stand in the order of a kind
abbrev pub order_of : OrderKind → Bool → List SigBit → List SigBit → Build SigBit
order_of Lt signed a b = less_of signed a b
order_of Le signed a b = not_less_of signed b a
order_of Ge signed a b = not_less_of signed a b
order_of Gt signed a b = less_of signed b a
