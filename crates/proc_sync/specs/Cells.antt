-- The parameters and pins of the cells that runs become.
use Rattle.std.specs.Prelude.{ℕ, List, [], ◌∷◌, map, codes}
use Rattle.cell_types.specs.declared.level.Level.{Level}
use Rattle.rtl_sig.specs.declared.sig.SigBit.{SigBit}
use Rattle.rtl_ir.specs.Build.{bits_param, integer_param, pin_of}
use Rattle.rtl_ir.specs.Signals.{constant_of}
use Rattle.rtl_ir.specs.declared.cell.CellParam.{CellParam}
use Rattle.rtl_ir.specs.declared.cell.Pin.{Pin}
use Rattle.net_model.specs.Proc.Sync.{polarity_of}

-- the width alone
abbrev pub width_params : ℕ → List CellParam
width_params width = integer_param (codes "\\WIDTH") width ∷ []

-- the width, and the level of an enable
abbrev pub enabled_params : ℕ → Level → List CellParam
enabled_params width level = integer_param (codes "\\WIDTH") width ∷ integer_param (codes "\\EN_POLARITY") (polarity_of level) ∷ []

-- .. of a clock
abbrev pub clocked_params : ℕ → Level → List CellParam
clocked_params width level =
    integer_param (codes "\\WIDTH") width ∷ integer_param (codes "\\CLK_POLARITY") (polarity_of level) ∷ []

-- .. and of a reset with its value
abbrev pub reset_params : ℕ → Level → Level → List SigBit → List CellParam
reset_params width clock level given =
    integer_param (codes "\\WIDTH") width ∷ integer_param (codes "\\CLK_POLARITY") (polarity_of clock) ∷ integer_param (codes "\\ARST_POLARITY") (polarity_of level) ∷ bits_param (codes "\\ARST_VALUE") (map constant_of given) ∷ []

-- .. or of a load
abbrev pub load_params : ℕ → Level → Level → List CellParam
load_params width clock level =
    integer_param (codes "\\WIDTH") width ∷ integer_param (codes "\\CLK_POLARITY") (polarity_of clock) ∷ integer_param (codes "\\ALOAD_POLARITY") (polarity_of level) ∷ []

-- data and output
abbrev pub data_pins : List SigBit → List SigBit → List Pin
data_pins d q = pin_of (codes "\\D") d ∷ pin_of (codes "\\Q") q ∷ []

-- with an enable
abbrev pub enabled_pins : List SigBit → List SigBit → List SigBit → List Pin
enabled_pins en d q = pin_of (codes "\\EN") en ∷ pin_of (codes "\\D") d ∷ pin_of (codes "\\Q") q ∷ []

-- with a clock
abbrev pub clocked_pins : List SigBit → List SigBit → List SigBit → List Pin
clocked_pins clk d q = pin_of (codes "\\CLK") clk ∷ pin_of (codes "\\D") d ∷ pin_of (codes "\\Q") q ∷ []

-- with a clock and a reset
abbrev pub reset_pins : List SigBit → List SigBit → List SigBit → List SigBit → List Pin
reset_pins clk arst d q =
    pin_of (codes "\\CLK") clk ∷ pin_of (codes "\\ARST") arst ∷ pin_of (codes "\\D") d ∷ pin_of (codes "\\Q") q ∷ []

-- with a clock and a load
abbrev pub load_pins : List SigBit → List SigBit → List SigBit → List SigBit → List SigBit → List Pin
load_pins clk aload ad d q =
    pin_of (codes "\\CLK") clk ∷ pin_of (codes "\\ALOAD") aload ∷ pin_of (codes "\\AD") ad ∷ pin_of (codes "\\D") d ∷ pin_of (codes "\\Q") q ∷ []
