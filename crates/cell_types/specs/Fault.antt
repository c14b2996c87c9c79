-- the faults of a cell's parameters and pins
use Rattle.std.specs.Prelude.{ℕ, Bool, true, false, not, List, Option, Some, None, if◌then◌else◌, ◌&&◌, ◌||◌, ◌==◌, ◌+◌, count_by, nat_lt}
use Rattle.std.specs.List.{list_all, list_any}
use Rattle.std.specs.Str.{bytes_eq}
use Rattle.cell_types.specs.declared.fault.CellFault.{CellFault}
use Rattle.cell_types.specs.declared.fault.CellFault.TheVariants as Fault
use Rattle.cell_types.specs.declared.given.Param.{Param}
use Rattle.cell_types.specs.declared.given.PinWidth.{PinWidth}
use Rattle.cell_types.specs.declared.kind.CellKind.{CellKind}
use Rattle.cell_types.specs.declared.kind.CellKind.TheVariants.{Word, Gate, Storage, StorageGate, Memory}
use Rattle.cell_types.specs.declared.memory.MemoryKind.TheVariants.{Memrd, MemrdV2}
use Rattle.cell_types.specs.declared.param_name.ParamName.{ParamName}
use Rattle.cell_types.specs.declared.param_name.ParamName.TheVariants.{ASigned, AWidth, YWidth, Offset, Width}
use Rattle.cell_types.specs.declared.pin_name.PinName.{PinName}
use Rattle.cell_types.specs.declared.pin_name.PinName.TheVariants.{Addr, Data}
use Rattle.cell_types.specs.declared.word.ShiftKind.TheVariants.{Shiftx}
use Rattle.cell_types.specs.declared.word.UnaryKind.TheVariants.{Neg}
use Rattle.cell_types.specs.declared.word.WordKind.{WordKind}
use Rattle.cell_types.specs.declared.word.WordKind.TheVariants.{Unary, Order, Arith, Division, Shift, Slice}
use Rattle.cell_types.specs.Given.{number_in}
use Rattle.cell_types.specs.ParamName.{param_text}
use Rattle.cell_types.specs.Params.{params_of}
use Rattle.cell_types.specs.PinName.{pin_text}
use Rattle.cell_types.specs.Pins.{pins_of}
use Rattle.cell_types.specs.Reading.{is_readable}
use Rattle.cell_types.specs.Widths.{pin_width}

-- a parameter is given once, with a value that can be read
abbrev pub is_given : CellKind → List Param → ParamName → Bool
is_given kind params name =
    (count_by (λ param. bytes_eq param.name (param_text name)) params == 1) && is_readable kind params name

-- a parameter is one of the kind's
abbrev pub has_param : CellKind → Param → Bool
has_param kind param = list_any (λ name. bytes_eq param.name (param_text name)) (params_of kind)

-- each parameter of the kind is given, and no other
abbrev pub are_params_good : CellKind → List Param → Bool
are_params_good kind params = list_all (is_given kind params) (params_of kind) && list_all (has_param kind) params

-- a pin of a read port that is not read
abbrev pub is_unread : PinName → Bool
is_unread Addr = false
is_unread Data = false
is_unread _ = true

-- a read port may lack all pins but its address and its word
abbrev pub may_lack : CellKind → PinName → Bool
may_lack (Memory Memrd) pin = is_unread pin
may_lack (Memory MemrdV2) pin = is_unread pin
may_lack _ pin = false

-- a pin is there once, or missing where it may be
abbrev pub is_joined : CellKind → List PinWidth → PinName → Bool
is_joined kind pins name =
    let count = count_by (λ (pin : PinWidth). bytes_eq pin.name (pin_text name)) pins in
    (count == 1) || ((count == 0) && may_lack kind name)

-- a pin is one of the kind's
abbrev pub has_pin : CellKind → PinWidth → Bool
has_pin kind pin = list_any (λ name. bytes_eq pin.name (pin_text name)) (pins_of kind)

-- each pin of the kind is there, and no other
abbrev pub are_pins_good : CellKind → List PinWidth → Bool
are_pins_good kind pins = list_all (is_joined kind pins) (pins_of kind) && list_all (has_pin kind) pins

-- the same of a combinational cell on words
abbrev pub word_has_no_meaning : WordKind → List Param → Bool
word_has_no_meaning (Shift Shiftx) params = nat_lt 0 (number_in params ASigned)
word_has_no_meaning Slice params =
    nat_lt (number_in params AWidth) (number_in params Offset + number_in params YWidth)
word_has_no_meaning _ params = false

-- a signed `$shiftx`, or a slice that passes the end of its operand
abbrev pub has_no_meaning : CellKind → List Param → Bool
has_no_meaning (Word kind) params = word_has_no_meaning kind params
has_no_meaning _ params = false

-- a parameter or pin is missing, unknown, given twice or without meaning
abbrev pub is_bad : CellKind → List Param → List PinWidth → Bool
is_bad kind params pins =
    not (are_params_good kind params) || not (are_pins_good kind pins) || has_no_meaning kind params

-- the greatest width of a pin of a combinational cell on words
abbrev pub limit_of : WordKind → ℕ
limit_of (Unary Neg) = 128
limit_of (Order _) = 128
limit_of (Arith _) = 128
limit_of (Division _) = 128
limit_of _ = 4096

-- a pin passes the limit
abbrev pub is_wide_pin : WordKind → List Param → PinName → Bool
is_wide_pin kind params name = nat_lt (limit_of kind) (pin_width (Word kind) params name)

-- a width passes its limit
abbrev pub is_wide : CellKind → List Param → Bool
is_wide (Word kind) params = list_any (is_wide_pin kind params) (pins_of (Word kind))
is_wide (Gate _) params = false
is_wide (Storage _) params = nat_lt 4096 (number_in params Width)
is_wide (StorageGate _) params = false
is_wide (Memory _) params = nat_lt 4096 (number_in params Width)

-- a pin has the width of this name, where it is named so
abbrev pub fits : CellKind → List Param → PinName → PinWidth → Bool
fits kind params name pin =
    not (bytes_eq pin.name (pin_text name)) || (pin.width == pin_width kind params name)

-- the pin of this name has its width, where it is there
abbrev pub has_width : CellKind → List Param → List PinWidth → PinName → Bool
has_width kind params pins name = list_all (fits kind params name) pins

-- a pin has another width than the parameters say
abbrev pub has_other_width : CellKind → List Param → List PinWidth → Bool
has_other_width kind params pins = not (list_all (has_width kind params pins) (pins_of kind))

-- the first fault of a cell
abbrev pub fault_of : CellKind → List Param → List PinWidth → Option CellFault
fault_of kind params pins =
    if is_bad kind params pins then Some Fault.Bad
    else if is_wide kind params then Some Fault.Wide
    else if has_other_width kind params pins then Some Fault.Width
    else None
