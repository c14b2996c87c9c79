-- What is put into tables with names as their keys.
use Rattle.std.proofs.Common.{◌≡◌, ℕ, ◌-◌, ◌<◌, ◌≤◌, Bool, true, false, cond, List, length, get_or, drop, Some, option_map, find, Bor, refl, subst}
use Rattle.std.proofs.lemmas.Map.Text.{hash_map_updates_str}
use Rattle.std.specs.HashMap.{UpdatesBy}
use Rattle.std.specs.Str.{bytes_eq}
use Rattle.rtl_ir.specs.declared.module.Module.{Module}
use Rattle.rtl_ir.specs.declared.ports.ModulePorts.{ModulePorts}
use Rattle.rtl_ir.specs.declared.ports.PortLine.{PortLine}
use Rattle.rtl_ir.specs.declared.wire.Wire.{Wire}
use Rattle.rtl_ir.specs.Ports.{is_port, line_of}
use Rattle.rtl_ir.specs.Types.{design_ports, module_named, port_lines, port_named, table_ports}
use Rattle.rtl_ir.proofs.PortLemmas.{drop-before}
use Rattle.net_index.specs.declared.types.Port.{Port}
use Rattle.net_index.specs.Types.{Named, IsTable, Stands, at_name, port_of}

-- a table after a value is put at a name
pub record Puts {A : Type 0} (old new : Named A) (key : Bor (List ℕ)) (value : A) : Type 0 where
  pub updates : UpdatesBy (λ (x y : Bor (List ℕ)). bytes_eq x.now y.now) (λ (k : Bor (List ℕ)). bytes_eq key.now k.now) old new (Some value)

-- the name has the value, and other names keep theirs
pub at_name-put : {A : Type 0} (old new : Named A) (key : Bor (List ℕ)) (value : A) → Puts old new key value → (name : List ℕ)
    → at_name new name ≡ cond (bytes_eq key.now name) (Some value) (at_name old name)
at_name-put old new key value p name = hash_map_updates_str key.now old new (Some value) p.updates name

-- a port goes before the others
pub port_put : (old new : Named Port) (key : Bor (List ℕ)) (w : Wire) → Puts old new key (record { role = w.role; width = w.width }) → key.now ≡ w.name → is_port w.role ≡ true
    → (wires : List Wire) (at : ℕ) → 0 < at → at ≤ length wires → w ≡ get_or wires (at - 1) w
    → IsTable old (port_lines (drop at wires)) → IsTable new (port_lines (drop (at - 1) wires))
port_put old new key w p named outer wires at some within is table name =
    rw (drop-before wires at w some within is, outer, at_name-put old new key _ p name, named, table name) (by (bytes_eq w.name name))
  where
    by : (b : Bool) → cond b (Some (record { role = w.role; width = w.width })) (option_map port_of (port_named (port_lines (drop at wires)) name))
        ≡ option_map port_of (cond b (Some (line_of w)) (port_named (port_lines (drop at wires)) name))
    by true = refl
    by false = refl

-- a module's ports go before those of the other modules
pub module_put : (old new : Named (Named Port)) (key : Bor (List ℕ)) (m : Module) (table : Named Port) → Puts old new key table → key.now ≡ m.id → (wires : List Wire) → wires ≡ m.wires → IsTable table (port_lines wires)
    → (modules : List Module) (at : ℕ) → 0 < at → at ≤ length modules → m ≡ get_or modules (at - 1) m
    → ((name : List ℕ) → Stands (at_name old name) (design_ports (drop at modules) name))
    → (name : List ℕ) → Stands (at_name new name) (design_ports (drop (at - 1) modules) name)
module_put old new key m table p named wires same own modules at some within is others name =
    rw (drop-before modules at m some within is, at_name-put old new key table p name, named) (by (bytes_eq m.id name) (others name))
  where
    by : (b : Bool) → Stands (at_name old name) (design_ports (drop at modules) name)
        → Stands (cond b (Some table) (at_name old name)) (option_map (λ (n : Module). port_lines n.wires) (cond b (Some m) (module_named (drop at modules) name)))
    by true h = subst (λ ws. IsTable table (port_lines ws)) same own
    by false h = h

-- a listed port goes before the others
pub line_put : (old new : Named Port) (key : Bor (List ℕ)) (w : PortLine) → Puts old new key (record { role = w.role; width = w.width }) → key.now ≡ w.name
    → (lines : List PortLine) (at : ℕ) → 0 < at → at ≤ length lines → w ≡ get_or lines (at - 1) w
    → IsTable old (drop at lines) → IsTable new (drop (at - 1) lines)
line_put old new key w p named lines at some within is table name =
    rw (drop-before lines at w some within is, at_name-put old new key _ p name, named, table name) (by (bytes_eq w.name name))
  where
    by : (b : Bool) → cond b (Some (record { role = w.role; width = w.width })) (option_map port_of (port_named (drop at lines) name))
        ≡ option_map port_of (cond b (Some w) (port_named (drop at lines) name))
    by true = refl
    by false = refl

-- a listed module's ports go before those of the other modules
pub listed_put : (old new : Named (Named Port)) (key : Bor (List ℕ)) (m : ModulePorts) (table : Named Port) → Puts old new key table → key.now ≡ m.id → (lines : List PortLine) → lines ≡ m.ports → IsTable table lines
    → (modules : List ModulePorts) (at : ℕ) → 0 < at → at ≤ length modules → m ≡ get_or modules (at - 1) m
    → ((name : List ℕ) → Stands (at_name old name) (table_ports (drop at modules) name))
    → (name : List ℕ) → Stands (at_name new name) (table_ports (drop (at - 1) modules) name)
listed_put old new key m table p named lines same own modules at some within is others name =
    rw (drop-before modules at m some within is, at_name-put old new key table p name, named) (by (bytes_eq m.id name) (others name))
  where
    by : (b : Bool) → Stands (at_name old name) (table_ports (drop at modules) name)
        → Stands (cond b (Some table) (at_name old name)) (option_map (λ (n : ModulePorts). n.ports) (cond b (Some m) (find (λ (n : ModulePorts). bytes_eq n.id name) (drop at modules))))
    by true h = subst (IsTable table) same own
    by false h = h
