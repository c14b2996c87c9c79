-- The flip-flop as it is made.
use Rattle.std.specs.Prelude.{ℕ, List, [], ◌∷◌, codes}
use Rattle.cell_types.specs.declared.level.Level.{Level}
use Rattle.rtl_bits.specs.declared.bit.Bit.{Bit}
use Rattle.rtl_sig.specs.declared.sig.SigBit.{SigBit}
use Rattle.rtl_ir.specs.Build.{bits_param, integer_param, pin_of}
use Rattle.rtl_ir.specs.declared.cell.Cell.{Cell}
use Rattle.net_model.specs.Proc.Sync.{polarity_of}

-- a flip-flop with these signals in the place of a cell
abbrev pub dff_like : Cell → ℕ → Level → List SigBit → List SigBit → List SigBit → Cell
dff_like c width level clock d q = record c {
  params = integer_param (codes "\\WIDTH") width ∷ integer_param (codes "\\CLK_POLARITY") (polarity_of level) ∷ [];
  pins = pin_of (codes "\\CLK") clock ∷ pin_of (codes "\\D") d ∷ pin_of (codes "\\Q") q ∷ [];
}

-- the same with a reset
abbrev pub adff_like : Cell → ℕ → Level → Level → List Bit → List SigBit → List SigBit → List SigBit → List SigBit → Cell
adff_like c width level reset_level value clock reset d q = record c {
  params = integer_param (codes "\\WIDTH") width ∷ integer_param (codes "\\CLK_POLARITY") (polarity_of level) ∷ integer_param (codes "\\ARST_POLARITY") (polarity_of reset_level) ∷ bits_param (codes "\\ARST_VALUE") value ∷ [];
  pins = pin_of (codes "\\CLK") clock ∷ pin_of (codes "\\ARST") reset ∷ pin_of (codes "\\D") d ∷ pin_of (codes "\\Q") q ∷ [];
}
