-- What is put into tables with names as their keys.
use Rattle.std.proofs.Common.{◌≡◌, ℕ, ◌-◌, ◌<◌, ◌≤◌, Bool, true, false, cond, List, length, get_or, drop, Some, Bor}
use Rattle.std.proofs.lemmas.Map.Text.{hash_map_updates_str}
use Rattle.std.specs.HashMap.{UpdatesBy}
use Rattle.std.specs.Str.{bytes_eq}
use Rattle.rtl_ir.specs.declared.module.Module.{Module}
use Rattle.rtl_ir.specs.Flat.Tree.{named}
use Rattle.rtl_ir.proofs.PortLemmas.{drop-before}
use Rattle.flat_net.specs.declared.modules.Entry.{Entry}
use Rattle.net_index.specs.Types.{Named, at_name}
use Rattle.flat_net.specs.Tables.{IsEntry, Stands}

-- a table after a value is put at a name
pub record Puts {A : Type 0} (old new : Named A) (key : Bor (List ℕ)) (value : A) : Type 0 where
  pub updates : UpdatesBy (λ (x y : Bor (List ℕ)). bytes_eq x.now y.now) (λ (k : Bor (List ℕ)). bytes_eq key.now k.now) old new (Some value)

-- the name has the value, and other names keep theirs
at_name-put : {A : Type 0} (old new : Named A) (key : Bor (List ℕ)) (value : A) → Puts old new key value → (name : List ℕ)
    → at_name new name ≡ cond (bytes_eq key.now name) (Some value) (at_name old name)
at_name-put old new key value p name = hash_map_updates_str key.now old new (Some value) p.updates name

-- a module goes before the others
pub entry_put : (old new : Named Entry) (key : Bor (List ℕ)) (m : Module) (e : Entry) → Puts old new key e → key.now ≡ m.id → IsEntry e m
    → (modules : List Module) (at : ℕ) → 0 < at → at ≤ length modules → m ≡ get_or modules (at - 1) m
    → ((name : List ℕ) → Stands (at_name old name) (named (drop at modules) name))
    → (name : List ℕ) → Stands (at_name new name) (named (drop (at - 1) modules) name)
entry_put old new key m e p keyed own modules at some within is others name =
    rw (drop-before modules at m some within is, at_name-put old new key e p name, keyed) (by (bytes_eq m.id name) (others name))
  where
    by : (b : Bool) → Stands (at_name old name) (named (drop at modules) name) → Stands (cond b (Some e) (at_name old name)) (cond b (Some m) (named (drop at modules) name))
    by true h = own
    by false h = h
