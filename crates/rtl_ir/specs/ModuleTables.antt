-- Tables of modules by their names.
use Rattle.std.specs.Prelude.{◌≡◌, ℕ, List, Option, None, if◌then◌else◌, option_map}
use Rattle.std.proofs.Common.{Bor}
use Rattle.std.specs.HashMap.{HashMap, get_by}
use Rattle.std.specs.Str.{bytes_eq}
use Rattle.std.specs.declared.hash.BuildHasherDefault.{BuildHasherDefault}
use Rattle.std.specs.declared.hash.FoldHasher.{FoldHasher}
use Rattle.rtl_ir.specs.declared.module.Module.{Module}
use Rattle.rtl_ir.specs.Ports.{is_library_cell}
use Rattle.rtl_ir.specs.Types.{module_named}

-- a table of modules, with names as its keys
abbrev pub ModuleTable : Type 0
ModuleTable = HashMap (Bor (List ℕ)) (Bor Module) (BuildHasherDefault FoldHasher)

-- what a table has at a name
abbrev pub module_in : ModuleTable → List ℕ → Option (Bor Module)
module_in table name = get_by (λ (k : Bor (List ℕ)). bytes_eq name k.now) table

-- the table has these modules, each by its name, of those of one name the first
abbrev pub AreByName : ModuleTable → List Module → Type 0
AreByName table modules =
    (name : List ℕ) → option_map (λ (m : Bor Module). m.now) (module_in table name) ≡ module_named modules name

-- the module that a cell of this type is an instance of, none of a cell of the library
abbrev pub instance_of : List Module → List ℕ → Option Module
instance_of modules name = if is_library_cell name then None else module_named modules name
