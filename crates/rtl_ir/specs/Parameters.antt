-- The parameters of a cell, as what they say.
use Rattle.std.specs.Prelude.{ℕ, List, [], Option, Some, None, map, find}
use Rattle.std.specs.Option.{option_map_or}
use Rattle.std.specs.Str.{bytes_eq}
use Rattle.rtl_bits.specs.declared.bit.Bit.{Bit}
use Rattle.cell_types.specs.Given.{value_in}
use Rattle.cell_types.specs.declared.given.Param.{Param}
use Rattle.cell_types.specs.declared.param_name.ParamName.{ParamName}
use Rattle.cell_types.specs.declared.param_name.ParamName.TheVariants.{Memid}
use Rattle.cell_types.specs.ParamName.{param_text}
use Rattle.rtl_sig.specs.declared.sig.SigBit.{SigBit}
use Rattle.rtl_ir.specs.declared.cell.CellParam.{CellParam}
use Rattle.rtl_ir.specs.declared.cell.Pin.{Pin}
use Rattle.rtl_ir.specs.declared.value.Value.{Value}
use Rattle.rtl_ir.specs.declared.value.Value.TheVariants.{Bits, Int, Chars}
use Rattle.rtl_ir.specs.Constants.{value_bits}

-- the parameters with the bits of their values
abbrev pub given_params : List CellParam → List Param
given_params params = map (λ (p : CellParam). record { name = p.name; value = value_bits p.value }) params

-- the bits of a parameter, none where it is not given
abbrev pub param_bits : List CellParam → ParamName → List Bit
param_bits params name = value_in (given_params params) name

-- the characters of a string, where the constant is one
abbrev pub chars_in : Value → Option (List ℕ)
chars_in (Bits bits signed) = None
chars_in (Int n) = None
chars_in (Chars text) = Some text

-- the name of the memory that a cell belongs to, where it is written as a string
abbrev pub memory_name : List CellParam → Option (List ℕ)
memory_name params =
    option_map_or (λ (p : CellParam). chars_in p.value) (find (λ (p : CellParam). bytes_eq p.name (param_text Memid)) params) None

-- the signal at the pin of this name, no bits where there is none
abbrev pub signal_at : List Pin → List ℕ → List SigBit
signal_at pins name = option_map_or (λ (p : Pin). p.sig) (find (λ (p : Pin). bytes_eq p.name name) pins) []
