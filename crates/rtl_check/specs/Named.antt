-- What names of types name.
use Rattle.std.specs.Prelude.{◌≡◌, ℕ, List, Some, None}
use Rattle.cell_types.specs.Kind.{kind_of}
use Rattle.rtl_ir.specs.Types.{CellType, Library}

-- a cell of the library is of the kind that has the name, and nothing else has the name of one
abbrev pub Names : List ℕ → CellType → Type 0
Names name (Library kind) = kind_of name ≡ Some kind
Names name type = kind_of name ≡ None
