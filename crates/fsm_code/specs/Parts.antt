-- The parameters and pins of cells in the code.
use Rattle.std.specs.Prelude.{ℕ, List, [], ◌∷◌, Option, Some, None, codes}
use Rattle.rtl_bits.specs.declared.bit.Bit.{Bit}
use Rattle.rtl_sig.specs.declared.sig.SigBit.{SigBit}
use Rattle.cell_types.specs.declared.pin_name.PinName.TheVariants.{Arst, Clk}
use Rattle.rtl_ir.specs.declared.cell.Cell.{Cell}
use Rattle.rtl_ir.specs.declared.cell.CellParam.{CellParam}
use Rattle.rtl_ir.specs.declared.cell.Pin.{Pin}
use Rattle.rtl_ir.specs.Build.{bits_param, integer_param, pin_of}
use Rattle.net_model.specs.Fsm.Find.{at_pin}

-- a width
abbrev pub width_params : ℕ → List CellParam
width_params width = integer_param (codes "\\WIDTH") width ∷ []

-- a width, and a number of selects
abbrev pub select_params : ℕ → ℕ → List CellParam
select_params width selects = integer_param (codes "\\WIDTH") width ∷ integer_param (codes "\\S_WIDTH") selects ∷ []

-- the pins of a fork
abbrev pub fork_pins : List SigBit → List SigBit → List SigBit → List SigBit → List Pin
fork_pins a b s y = pin_of (codes "\\A") a ∷ pin_of (codes "\\B") b ∷ pin_of (codes "\\S") s ∷ pin_of (codes "\\Y") y ∷ []

-- a width, and the level of a clock
abbrev pub clock_params : ℕ → ℕ → List CellParam
clock_params width clock = integer_param (codes "\\WIDTH") width ∷ integer_param (codes "\\CLK_POLARITY") clock ∷ []

-- the same with a reset
abbrev pub reset_params : ℕ → ℕ → ℕ → List Bit → List CellParam
reset_params width clock level code =
    integer_param (codes "\\WIDTH") width
    ∷ integer_param (codes "\\CLK_POLARITY") clock
    ∷ integer_param (codes "\\ARST_POLARITY") level
    ∷ bits_param (codes "\\ARST_VALUE") code ∷ []

-- the pins of a flip-flop
abbrev pub flop_pins : List SigBit → List SigBit → List SigBit → List Pin
flop_pins clock d q = pin_of (codes "\\CLK") clock ∷ pin_of (codes "\\D") d ∷ pin_of (codes "\\Q") q ∷ []

-- the same with a reset
abbrev pub reset_pins : List SigBit → List SigBit → List SigBit → List SigBit → List Pin
reset_pins clock reset d q =
    pin_of (codes "\\CLK") clock ∷ pin_of (codes "\\ARST") reset ∷ pin_of (codes "\\D") d ∷ pin_of (codes "\\Q") q ∷ []

-- the pins of the flip-flop of a cell, with its reset where it has one
abbrev pub pins_of : Cell → Option (List Bit) → List SigBit → List SigBit → List Pin
pins_of c None d q = flop_pins (at_pin c Clk) d q
pins_of c (Some value) d q = reset_pins (at_pin c Clk) (at_pin c Arst) d q

-- the parameters and pins of a one-bit `$not`
abbrev pub inverse_params : List CellParam
inverse_params =
    integer_param (codes "\\A_SIGNED") 0 ∷ integer_param (codes "\\A_WIDTH") 1 ∷ integer_param (codes "\\Y_WIDTH") 1 ∷ []

abbrev pub inverse_pins : SigBit → SigBit → List Pin
inverse_pins bit y = pin_of (codes "\\A") (bit ∷ []) ∷ pin_of (codes "\\Y") (y ∷ []) ∷ []
