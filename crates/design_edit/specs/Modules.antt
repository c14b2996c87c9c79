-- The modules of a design, by their names.
use Rattle.std.specs.Prelude.{ℕ, ◌+◌, ◌<◌, ◌≤◌, Bool, not, List, [], ◌∷◌, filter, length, take, if◌then◌else◌}
use Rattle.std.specs.List.{position_or_len}
use Rattle.std.specs.Option.{is_some}
use Rattle.std.specs.Str.{bytes_eq}
use Rattle.rtl_ir.specs.declared.module.Module.{Module}
use Rattle.rtl_ir.specs.declared.limits.TheConstants.{MAX_MODULES}
use Rattle.rtl_ir.specs.Types.{module_named}

-- some module has the name
abbrev pub has_module : List Module → List ℕ → Bool
has_module modules name = is_some (module_named modules name)

-- the modules without the one of this name
abbrev pub without_module : List Module → List ℕ → List Module
without_module modules name = filter (λ (m : Module). not (bytes_eq m.id name)) modules

-- the module in the place of the one of its name, or at the end where none has it
abbrev pub with_module : List Module → Module → List Module
with_module [] new = new ∷ []
with_module (m ∷ modules) new = if bytes_eq m.id new.id then new ∷ modules else m ∷ with_module modules new

-- each of some modules in the place of the one of its name, or at the end
abbrev pub with_modules : List Module → List Module → List Module
with_modules modules [] = modules
with_modules modules (new ∷ more) = with_modules (with_module modules new) more

-- the place that a module of this name takes among others: that of the one of its name, or behind them all
abbrev pub place_for : List Module → List ℕ → ℕ
place_for modules name = position_or_len (λ (m : Module). bytes_eq m.id name) modules

-- the places that modules take among others, one after another
abbrev pub places_for : List Module → List Module → List ℕ
places_for modules [] = []
places_for modules (new ∷ more) = place_for modules new.id ∷ places_for (with_module modules new) more

-- the module at this place of some is the first that makes modules with them more than a design may have
pub record PassesAt (modules edits : List Module) (at : ℕ) : Type 0 where
  pub within : length (with_modules modules (take at edits)) ≤ MAX_MODULES
  pub passes : MAX_MODULES < length (with_modules modules (take (at + 1) edits))
