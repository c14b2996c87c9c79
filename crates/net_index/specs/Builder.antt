-- What a module that is added to may hold, and how new parameters are written.
use Rattle.std.specs.Prelude.{ℕ, ◌≤◌, ◌&&◌, ◌^◌, nat_lt, nat_le, not, ◌+◌, pos, Bool, List, [], ◌∷◌, ◌++◌, length, map, false, if◌then◌else◌}
use Rattle.std.specs.List.{list_any}
use Rattle.std.specs.Str.{bytes_eq}
use Rattle.rtl_bits.specs.Knowledge.{all_known}
use Rattle.rtl_bits.specs.Numbers.{number_of}
use Rattle.rtl_bits.specs.declared.bit.Bit.{Bit}
use Rattle.cell_types.specs.ParamName.{param_text}
use Rattle.cell_types.specs.declared.given.Param.{Param}
use Rattle.cell_types.specs.declared.param_name.ParamName.{ParamName}
use Rattle.cell_types.specs.declared.param_name.ParamName.TheVariants.{ArstValue, SrstValue, InitValue, PriorityMask, TransparencyMask, CollisionXMask, Memid}
use Rattle.rtl_ir.specs.Build.{Building}
use Rattle.rtl_ir.specs.declared.cell.CellParam.{CellParam}
use Rattle.rtl_ir.specs.declared.module.Module.{Module}
use Rattle.rtl_ir.specs.declared.value.Value.{Value}
use Rattle.rtl_ir.specs.declared.value.Value.TheVariants.{Bits, Int, Chars}
use Rattle.net_index.specs.Numbering.{bit_count, widths_of}

-- a module that is added to, whose fresh names go on from a number
abbrev pub building_from : ℕ → Module → Building
building_from next m = record { body = m; next = next }

-- a module is within the limits on cells, on bits of wires and on the numbers of fresh names
pub record IsInLimits (b : Building) : Type 0 where
  pub cells : length b.body.cells ≤ 1048576
  pub bits : bit_count (widths_of b.body.wires) ≤ 4194304
  -- the last number that was taken is one below the next
  pub names : b.next ≤ 1000000000

-- so many cells, bits of wires and fresh names may still come
pub record HasRoom (b : Building) (cells bits names : ℕ) : Type 0 where
  pub cells_fit : length b.body.cells + cells ≤ 1048576
  pub bits_fit : bit_count (widths_of b.body.wires) + bits ≤ 4194304
  pub names_fit : b.next + names ≤ 1000000000

-- a module passes one of the limits
abbrev pub PassesLimit : Building → Type 0
PassesLimit b = IsInLimits b → ⊥

-- the parameters that are values and masks
abbrev pub value_params : List ParamName
value_params = ArstValue ∷ SrstValue ∷ InitValue ∷ PriorityMask ∷ TransparencyMask ∷ CollisionXMask ∷ []

-- a parameter is one of them
abbrev pub is_value : List ℕ → Bool
is_value name = list_any (λ param. bytes_eq name (param_text param)) value_params

-- the characters of a string, 8 bits each, the first one on top
abbrev pub chars_of : List Bit → List ℕ
chars_of (a ∷ b ∷ c ∷ d ∷ e ∷ f ∷ g ∷ h ∷ bits) =
    chars_of bits ++ number_of (a ∷ b ∷ c ∷ d ∷ e ∷ f ∷ g ∷ h ∷ []) ∷ []
chars_of bits = []

-- bits, at most 128, have a number that an integer holds
abbrev pub is_integer : List Bit → Bool
is_integer bits = all_known bits && (nat_le (length bits) 128 && nat_lt (number_of bits) (2 ^ 31))

-- a number as an integer where one holds it, else as its bits
abbrev pub number_value : List Bit → Value
number_value bits = if is_integer bits then Int (pos (number_of bits)) else Bits bits false

-- how the value of a new parameter is written: the name of a memory as a string, values and masks as bits, all else as
-- an integer
abbrev pub new_value : List ℕ → List Bit → Value
new_value name bits =
    if bytes_eq name (param_text Memid) then Chars (chars_of bits)
    else if is_value name then Bits bits false
    else number_value bits

-- a parameter of a new cell
abbrev pub new_param : Param → CellParam
new_param param = record { name = param.name; value = new_value param.name param.value; signed = false }

-- the parameters of a new cell
abbrev pub new_params : List Param → List CellParam
new_params params = map new_param params

-- a parameter is neither the name of a memory nor a value or mask
abbrev pub is_number_param : ParamName → Bool
is_number_param name = not (bytes_eq (param_text name) (param_text Memid)) && not (is_value (param_text name))
