-- The bits that rules update, each with the source of its value, and the trees that lead on from them.
use Rattle.std.specs.Prelude.{◌≡◌, List, [], ◌∷◌, length, Some, slice_get}
use Rattle.rtl_bits.specs.declared.bit.Bit.{Bit}
use Rattle.rtl_sig.specs.declared.sig.SigBit.{SigBit}
use Rattle.rtl_sig.specs.declared.sig.SigBit.TheVariants.{Wire as OnWire}
use Rattle.rtl_sig.specs.declared.sig.WireBit.{WireBit}
use Rattle.rtl_ir.specs.declared.wire.Wire.{Wire}
use Rattle.rtl_ir.specs.Faults.TwoEdges.{SwitchTest}
use Rattle.rtl_ir.specs.Flat.Place.{Path, Place}
use Rattle.rtl_ir.specs.Flat.Point.{bit_place}
use Rattle.rtl_ir.specs.declared.follow.Join.{Join}
use Rattle.rtl_ir.specs.Tree.{CaseView}
use Rattle.flat_net.specs.declared.choices.Tree.{Tree}
use Rattle.flat_net.specs.declared.leaves.HeldBit.{HeldBit}
use Rattle.flat_net.specs.Trees.{IsBranch, IsSource}

-- the bit is the one that a place updates, with its start value
pub record IsHeldBit (ps : List Place) (start : SigBit → Bit) (p : Path) (wires : List Wire) (bits : List WireBit) (b : HeldBit) (j : Join) : Type 0 where
  pub number : slice_get ps b.number ≡ Some (bit_place p wires j.bit)
  pub begins : b.start ≡ start (OnWire j.bit)
  pub source : IsSource ps p wires bits b.source j.source

-- the bits are those of these places
abbrev pub AreHeldBits : List Place → (SigBit → Bit) → Path → List Wire → List WireBit → List HeldBit → List Join → Type 0
AreHeldBits ps start p wires bits [] [] = Unit {0}
AreHeldBits ps start p wires bits [] (j ∷ js) = ⊥
AreHeldBits ps start p wires bits (b ∷ bs) [] = ⊥
AreHeldBits ps start p wires bits (b ∷ bs) (j ∷ js) =
    IsHeldBit ps start p wires bits b j × AreHeldBits ps start p wires bits bs js

-- the tree is that of a root over these tree bits, and drives nothing
pub record IsRoot (ps : List Place) (test : SwitchTest) (p : Path) (wires : List Wire) (bits : List WireBit) (tree : Tree) (c : CaseView) : Type 0 where
  pub width : tree.width ≡ length bits
  pub outputs : tree.outputs ≡ []
  pub branch : IsBranch ps test p wires bits tree.root c
