-- Names of codes.
use Rattle.std.specs.Prelude.{ℕ, Bool, true, List, [], ◌∷◌, codes, find, map, slice_index_or}
use Rattle.std.specs.List.{range_with_len}
use Rattle.rtl_bits.specs.declared.bit.Bit.{Bit}
use Rattle.rtl_bits.specs.declared.bit.Bit.TheVariants.{X}
use Rattle.rtl_bits.specs.Tables.{seen_of}
use Rattle.rtl_ir.specs.declared.wire.Wire.{Wire}
use Rattle.rtl_ir.specs.Attributes.{attribute_bits}
use Rattle.std.specs.Option.{option_map_or}
use Rattle.std.specs.Str.{bytes_eq}
use Rattle.rtl_ir.specs.declared.value.Attribute.{Attribute}
use Rattle.rtl_ir.specs.declared.value.Value.{Value}
use Rattle.net_model.specs.Fsm.Find.{is_text}

-- a constant is the string `auto` or `one-hot`
abbrev pub is_code_name : Value → Bool
is_code_name value = is_text (codes "auto" ∷ codes "one-hot" ∷ []) value

-- the attribute of this name is absent, `auto` or `one-hot`
abbrev pub is_absent_or_code : List Attribute → List ℕ → Bool
is_absent_or_code attributes name =
    option_map_or (λ (a : Attribute). is_code_name a.value) (find (λ (a : Attribute). bytes_eq a.name name) attributes) true

-- the start values of the bits of a wire by its attribute `\init`
abbrev pub init_bits : Wire → List Bit
init_bits w = map (λ at. seen_of (slice_index_or (attribute_bits w.attributes (codes "\\init")) at X)) (range_with_len 0 w.width)
