-- The parts of the cells of words and their chains.
use Rattle.std.specs.Prelude.{ℕ, Bool, List, [], ◌∷◌, codes, if◌then◌else◌, length}
use Rattle.rtl_sig.specs.declared.sig.SigBit.{SigBit}
use Rattle.rtl_ir.specs.Build.{Build, Building, integer_param, new_cell, new_driver, pin_of}
use Rattle.rtl_ir.specs.declared.cell.CellParam.{CellParam}
use Rattle.rtl_ir.specs.declared.cell.Pin.{Pin}
use Rattle.net_model.specs.Mem.Expand.{low_bit}
use Rattle.match_cells.specs.Parts.{binary_params}

-- the pins of the two operands
abbrev pub binary_pins : List SigBit → List SigBit → List Pin
binary_pins a b = pin_of (codes "\\A") a ∷ pin_of (codes "\\B") b ∷ []

-- the parameters of a `$dff` of a width, at a rising edge or a falling one
abbrev pub register_params : ℕ → Bool → List CellParam
register_params width rising =
    integer_param (codes "\\WIDTH") width ∷ integer_param (codes "\\CLK_POLARITY") (if rising then 1 else 0) ∷ []

-- the pins of a `$dff`
abbrev pub register_pins : SigBit → List SigBit → List SigBit → List Pin
register_pins clock d q = pin_of (codes "\\CLK") (clock ∷ []) ∷ pin_of (codes "\\D") d ∷ pin_of (codes "\\Q") q ∷ []

-- an `$and` of two bits
abbrev pub and_cell : SigBit → SigBit → Build SigBit
and_cell a b building =
    let made = new_driver (codes "$and") (binary_params 1) (binary_pins (a ∷ []) (b ∷ [])) (codes "\\Y") 1 building in
    (low_bit made.0, made.1)

-- a `$dff` of a clock bit
abbrev pub register_cell : SigBit → Bool → List SigBit → List SigBit → Building → Building
register_cell clock rising d q = new_cell (codes "$dff") (register_params (length q) rising) (register_pins clock d q)
