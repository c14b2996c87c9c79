-- The cells of the tree and the flip-flop as they are made.
use Rattle.std.specs.Prelude.{ℕ, List, [], ◌∷◌, codes}
use Rattle.rtl_sig.specs.declared.sig.SigBit.{SigBit}
use Rattle.rtl_ir.specs.Build.{integer_param, pin_of}
use Rattle.rtl_ir.specs.declared.cell.Cell.{Cell}

-- a multiplexer in the place of a cell
abbrev pub mux_like : Cell → ℕ → List SigBit → List SigBit → List SigBit → List SigBit → Cell
mux_like c width a b s y = record c {
  params = integer_param (codes "\\WIDTH") width ∷ [];
  pins = pin_of (codes "\\A") a ∷ pin_of (codes "\\B") b ∷ pin_of (codes "\\S") s ∷ pin_of (codes "\\Y") y ∷ [];
}

-- a multiplexer of several parts in the place of a cell
abbrev pub pmux_like : Cell → ℕ → ℕ → List SigBit → List SigBit → List SigBit → List SigBit → Cell
pmux_like c width selects a b s y = record c {
  params = integer_param (codes "\\WIDTH") width ∷ integer_param (codes "\\S_WIDTH") selects ∷ [];
  pins = pin_of (codes "\\A") a ∷ pin_of (codes "\\B") b ∷ pin_of (codes "\\S") s ∷ pin_of (codes "\\Y") y ∷ [];
}
