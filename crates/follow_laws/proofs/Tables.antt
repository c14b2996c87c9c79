-- The ports of a table: what the check finds there, and what the flat netlist does.
use Rattle.std.proofs.Common.{◌≡◌, ℕ, Bool, true, false, cond, List, [], ◌∷◌, Some, refl}
use Rattle.std.specs.Prelude.{find, option_map, unwrap_or}
use Rattle.std.specs.Str.{bytes_eq}
use Rattle.rtl_ir.specs.declared.ports.ModulePorts.{ModulePorts}
use Rattle.rtl_ir.specs.declared.ports.PortTable.{PortTable}
use Rattle.rtl_ir.specs.Flat.Tree as flat
use Rattle.rtl_ir.specs.Types as types

listed : (modules : List ModulePorts) (id : List ℕ) → flat.listed_ports modules id ≡ unwrap_or (types.table_ports modules id) []
listed [] id = refl
listed (m ∷ modules) id = by (bytes_eq m.id id) (listed modules id)
  where
    by : (t : Bool) → flat.listed_ports modules id ≡ unwrap_or (types.table_ports modules id) [] → cond t m.ports (flat.listed_ports modules id) ≡ unwrap_or (option_map (λ (n : ModulePorts). n.ports) (cond t (Some m) (find (λ (n : ModulePorts). bytes_eq n.id id) modules))) []
    by true later = refl
    by false later = later

-- the ports of a module are the same, in the same order; of a module that the table does not list the flat netlist has none
pub same_ports : (table : PortTable) (id : List ℕ) → flat.table_ports table id ≡ unwrap_or (types.table_ports table.modules id) []
same_ports table id = listed table.modules id
