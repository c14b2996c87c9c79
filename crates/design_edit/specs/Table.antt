-- Tables of the places of modules, by their names.
use Rattle.std.specs.Prelude.{◌≡◌, ℕ, ◌+◌, List, [], ◌∷◌, Option, Some, None, if◌then◌else◌}
use Rattle.std.specs.Str.{bytes_eq}
use Rattle.rtl_ir.specs.declared.module.Module.{Module}
use Rattle.rtl_ir.specs.Faults.Recursion.{place_named}
use Rattle.net_index.specs.Types.{Named, at_name}

-- the table has the places of these modules, each by its name
abbrev pub ArePlaces : Named ℕ → List Module → Type 0
ArePlaces places modules = (name : List ℕ) → at_name places name ≡ place_named modules name

-- the place of the module of this name among those from a place on
abbrev pub place_from : ℕ → List Module → List ℕ → Option ℕ
place_from at [] name = None
place_from at (m ∷ modules) name = if bytes_eq m.id name then Some at else place_from (at + 1) modules name
