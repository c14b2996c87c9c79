-- The places of attributes.
use Rattle.std.specs.Prelude.{ℕ, suc, List, [], ◌∷◌, Option, Some, None, if◌then◌else◌}
use Rattle.std.specs.Option.{option_map}
use Rattle.std.specs.Str.{bytes_eq}
use Rattle.rtl_ir.specs.declared.value.Attribute.{Attribute}

-- the place of the first attribute of a name
abbrev pub place_of : List ℕ → List Attribute → Option ℕ
place_of name [] = None
place_of name (a ∷ attributes) = if bytes_eq a.name name then Some 0 else option_map suc (place_of name attributes)
