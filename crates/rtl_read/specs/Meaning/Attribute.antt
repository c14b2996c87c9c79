-- The attributes that wait for their item.
use Rattle.std.specs.Prelude.{ℕ, List, [], ◌∷◌, ◌++◌, length, nat_lt, if◌then◌else◌, slice_set}
use Rattle.rtl_sig.specs.Names.{next_number_of, with_name}
use Rattle.rtl_ir.specs.declared.value.Value.{Value}
use Rattle.rtl_ir.specs.declared.value.Attribute.{Attribute}
use Rattle.rtl_read.specs.declared.attributes.Attributes.{Attributes}

-- none
abbrev pub no_attributes : Attributes
no_attributes = record { items = []; names = [] }

-- an attribute at a place of the list, or at its end
abbrev pub put_at : ℕ → Attribute → List Attribute → List Attribute
put_at k a items = if nat_lt k (length items) then slice_set items k a else items ++ a ∷ []

-- with one more: a name that is there keeps its place, with the new value
abbrev pub with_attribute : List ℕ → Value → Attributes → Attributes
with_attribute name v s = record {
  items = put_at (next_number_of s.names name) (record { name = name; value = v }) s.items;
  names = with_name s.names name;
}
