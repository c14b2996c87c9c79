-- The parts of a latch of one bit.
use Rattle.std.specs.Prelude.{List, [], ◌∷◌, codes}
use Rattle.rtl_sig.specs.declared.sig.SigBit.{SigBit}
use Rattle.rtl_sig.specs.declared.sig.SigBit.TheVariants.{Wire as OnWire}
use Rattle.rtl_sig.specs.declared.sig.WireBit.{WireBit}
use Rattle.rtl_ir.specs.Build.{integer_param, pin_of}
use Rattle.rtl_ir.specs.declared.cell.CellParam.{CellParam}
use Rattle.rtl_ir.specs.declared.cell.Pin.{Pin}

-- its parameters
abbrev pub latch_params : List CellParam
latch_params = integer_param (codes "\\WIDTH") 1 ∷ integer_param (codes "\\EN_POLARITY") 1 ∷ []

-- its pins
abbrev pub latch_pins : WireBit → SigBit → SigBit → List Pin
latch_pins q new enable =
    pin_of (codes "\\EN") (enable ∷ []) ∷ pin_of (codes "\\D") (new ∷ []) ∷ pin_of (codes "\\Q") (OnWire q ∷ []) ∷ []
