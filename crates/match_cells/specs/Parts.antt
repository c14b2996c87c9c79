-- The parts of the cells of which multiplexers and matches are made.
use Rattle.std.specs.Prelude.{ℕ, List, [], ◌∷◌, length, map, codes}
use Rattle.rtl_sig.specs.declared.sig.SigBit.{SigBit}
use Rattle.cell_types.specs.declared.given.Param.{Param}
use Rattle.cell_types.specs.declared.kind.CellKind.{CellKind}
use Rattle.rtl_ir.specs.Build.{Build, integer_param, new_driver, pin_of}
use Rattle.rtl_ir.specs.declared.cell.CellParam.{CellParam}
use Rattle.rtl_ir.specs.declared.cell.Pin.{Pin}
use Rattle.net_index.specs.Builder.{new_params}
use Rattle.net_index.specs.BuilderNames.{name_of}
use Rattle.net_model.specs.Proc.Mux.{lowest}

-- the parameters of a cell of two unsigned operands of this width, and an output of one bit
abbrev pub binary_params : ℕ → List CellParam
binary_params width =
    integer_param (codes "\\A_SIGNED") 0 ∷ integer_param (codes "\\A_WIDTH") width ∷ integer_param (codes "\\B_SIGNED") 0 ∷ integer_param (codes "\\B_WIDTH") width ∷ integer_param (codes "\\Y_WIDTH") 1 ∷ []

-- the pins of an `$eq` of places of a pattern and a signal
abbrev pub equal_pins : List (SigBit × SigBit) → List Pin
equal_pins places =
    pin_of (codes "\\A") (map (λ (q : SigBit × SigBit). q.1) places) ∷ pin_of (codes "\\B") (map (λ (q : SigBit × SigBit). q.0) places) ∷ []

-- the parameters of a `$reduce_or` of this width
abbrev pub or_params : ℕ → List CellParam
or_params width =
    integer_param (codes "\\A_SIGNED") 0 ∷ integer_param (codes "\\A_WIDTH") width ∷ integer_param (codes "\\Y_WIDTH") 1 ∷ []

-- a `$reduce_or` of bits
abbrev pub or_cell : List SigBit → Build SigBit
or_cell bits b =
    let made = new_driver (codes "$reduce_or") (or_params (length bits)) (pin_of (codes "\\A") bits ∷ []) (codes "\\Y") 1 b in
    (lowest made.0, made.1)

-- a cell of a kind whose output Y is one fresh bit
abbrev pub bit_cell : CellKind → List Param → List Pin → Build SigBit
bit_cell kind params pins b =
    let made = new_driver (name_of kind) (new_params params) pins (codes "\\Y") 1 b in
    (lowest made.0, made.1)

-- the pins of a `$mux`
abbrev pub mux_pins : List SigBit → List SigBit → SigBit → List Pin
mux_pins a b s = pin_of (codes "\\A") a ∷ pin_of (codes "\\B") b ∷ pin_of (codes "\\S") (s ∷ []) ∷ []
