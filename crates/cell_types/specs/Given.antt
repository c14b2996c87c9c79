-- the parameters that a cell has
use Rattle.std.specs.Prelude.{ℕ, List, [], ◌∷◌, if◌then◌else◌}
use Rattle.std.specs.Str.{bytes_eq}
use Rattle.rtl_bits.specs.declared.bit.Bit.{Bit}
use Rattle.cell_types.specs.declared.given.Param.{Param}
use Rattle.cell_types.specs.declared.param_name.ParamName.{ParamName}
use Rattle.rtl_bits.specs.Numbers.{number_of}
use Rattle.cell_types.specs.ParamName.{param_text}

-- the value of a parameter, no bits where it is not given
abbrev pub value_in : List Param → ParamName → List Bit
value_in [] name = []
value_in (param ∷ params) name =
    if bytes_eq param.name (param_text name) then param.value else value_in params name

-- the value of a parameter as a number
abbrev pub number_in : List Param → ParamName → ℕ
number_in params name = number_of (value_in params name)
