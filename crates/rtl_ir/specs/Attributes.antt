-- What attributes say.
use Rattle.std.specs.Prelude.{ℕ, Bool, not, List, [], codes, find}
use Rattle.std.specs.List.{list_any}
use Rattle.std.specs.Option.{option_map_or}
use Rattle.std.specs.Str.{bytes_eq}
use Rattle.rtl_bits.specs.declared.bit.Bit.{Bit}
use Rattle.rtl_bits.specs.declared.bit.Bit.TheVariants.{S0}
use Rattle.rtl_ir.specs.declared.value.Attribute.{Attribute}
use Rattle.rtl_ir.specs.Constants.{value_bits}
use Rattle.rtl_ir.specs.Signals.{same_value}

-- the bits of the attribute of this name, none where there is no such attribute
abbrev pub attribute_bits : List Attribute → List ℕ → List Bit
attribute_bits attributes name =
    option_map_or (λ (a : Attribute). value_bits a.value) (find (λ (a : Attribute). bytes_eq a.name name) attributes) []

-- an item is kept: it has a nonzero `\keep`, one of whose bits is not 0
abbrev pub is_kept : List Attribute → Bool
is_kept attributes = list_any (λ b. not (same_value S0 b)) (attribute_bits attributes (codes "\\keep"))
