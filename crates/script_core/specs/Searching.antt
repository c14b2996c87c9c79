-- The search for the modules that a module reaches, as the code goes about it.
use Rattle.std.specs.Prelude.{◌≡◌, ◌⊎◌, ◌+◌, ℕ, Bool, List, [], ◌∷◌, ◌++◌, Some, filter, length, map}
use Rattle.std.proofs.Common.{Bor}
use Rattle.rtl_ir.specs.declared.cell.Cell.{Cell}
use Rattle.rtl_ir.specs.declared.module.Module.{Module}
use Rattle.rtl_ir.specs.ModuleTables.{instance_of}
use Rattle.rtl_ir.specs.Ports.{in_name_order, place_module}
use Rattle.rtl_ir.specs.Types.{module_named}
use Rattle.net_model.specs.Lists.{In}
use Rattle.script_core.specs.declared.key_table.Search.{Search}

-- a module under its name
abbrev pub NamedModule : Type 0
NamedModule = Bor (List ℕ) × Bor Module

-- each of these modules stands under its own name
abbrev pub AreNamed : List NamedModule → Type 0
AreNamed [] = Unit {0}
AreNamed (e ∷ es) = (e.0.now ≡ e.1.now.id) × AreNamed es

-- the modules that were found, in order of their names
abbrev pub found_modules : Search → List Module
found_modules s = map (λ (e : NamedModule). e.1.now) s.found.entries

-- the modules whose cells are to be looked at
abbrev pub waiting_modules : Search → List Module
waiting_modules s = map (λ (m : Bor Module). m.now) s.waiting.items

-- a module of this name is among these
abbrev pub HasName : List Module → List ℕ → Type 0
HasName ms id = (m : Module) × In m ms × (m.id ≡ id)

-- a module is found: where none of its name was, it waits
pub record Finds (old new : Search) (m : Module) : Type 0 where
  pub found : found_modules new ≡ place_module m (found_modules old)
  pub named : AreNamed new.found.entries
  pub waits :
      ((waiting_modules new ≡ waiting_modules old ++ m ∷ []) × (length (found_modules new) ≡ length (found_modules old) + 1))
      ⊎ ((waiting_modules new ≡ waiting_modules old) × (length (found_modules new) ≡ length (found_modules old)) × HasName (found_modules old) m.id)

-- what was found are all modules of some names, in order, each the first of its name
pub record AreAsked (modules found : List Module) : Type 0 where
  pub test : List ℕ → Bool
  pub all : found ≡ in_name_order (filter (λ (m : Module). test m.id) modules)
  pub first : (m : Module) → In m found → module_named modules m.id ≡ Some m

-- cells were looked at: the modules that they are instances of are found, and no others; those that are new wait
pub record Looks (modules : List Module) (old new : Search) (cells : List Cell) : Type 0 where
  pub more : (m : Module) → In m (found_modules old) → In m (found_modules new)
  pub inner : (m : Module) (c : Cell) → In c cells → instance_of modules c.kind_name ≡ Some m → In m (found_modules new)
  pub only : (m : Module) → In m (found_modules new) → In m (found_modules old) ⊎ ((c : Cell) × In c cells × (instance_of modules c.kind_name ≡ Some m))
  pub waits : (m : Module) → In m (found_modules new) → In m (found_modules old) ⊎ In m (waiting_modules new)
  pub stay : (m : Module) → In m (waiting_modules old) → In m (waiting_modules new)
  pub come : (m : Module) → In m (waiting_modules new) → In m (waiting_modules old) ⊎ In m (found_modules new)
  pub asked : AreAsked modules (found_modules new)
  pub named : AreNamed new.found.entries
  pub work : length (waiting_modules new) + length (found_modules old) ≡ length (waiting_modules old) + length (found_modules new)
