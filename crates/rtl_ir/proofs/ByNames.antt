-- Modules that are put into a table by their names.
use Rattle.std.proofs.Common.{◌≡◌, ℕ, ◌-◌, ◌<◌, ◌≤◌, Bool, true, false, cond, List, length, get_or, drop, Some, option_map, Bor, refl}
use Rattle.std.proofs.lemmas.Map.Text.{hash_map_updates_str}
use Rattle.std.specs.HashMap.{UpdatesBy}
use Rattle.std.specs.Str.{bytes_eq}
use Rattle.rtl_ir.specs.declared.module.Module.{Module}
use Rattle.rtl_ir.specs.ModuleTables.{AreByName, ModuleTable, module_in}
use Rattle.rtl_ir.specs.Types.{module_named}
use Rattle.rtl_ir.proofs.PortLemmas.{drop-before}

-- a table after a module is put at a name
pub record Puts (old new : ModuleTable) (key : Bor (List ℕ)) (m : Bor Module) : Type 0 where
  pub updates : UpdatesBy (λ (x y : Bor (List ℕ)). bytes_eq x.now y.now) (λ (k : Bor (List ℕ)). bytes_eq key.now k.now) old new (Some m)

-- the module goes before those behind it
pub module_put : (old new : ModuleTable) (key : Bor (List ℕ)) (m : Bor Module) → Puts old new key m → key.now ≡ m.now.id
    → (modules : List Module) (at : ℕ) → 0 < at → at ≤ length modules → m.now ≡ get_or modules (at - 1) m.now
    → AreByName old (drop at modules) → AreByName new (drop (at - 1) modules)
module_put old new key m p named modules at some within is before name =
    rw (drop-before modules at m.now some within is, hash_map_updates_str key.now old new (Some m) p.updates name, named) (by (bytes_eq m.now.id name))
  where
    by : (b : Bool) → option_map (λ (m : Bor Module). m.now) (cond b (Some m) (module_in old name)) ≡ cond b (Some m.now) (module_named (drop at modules) name)
    by true = refl
    by false = before name
