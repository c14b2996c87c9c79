-- Tables of the modules that cells may be instances of.
use Rattle.std.specs.Prelude.{◌≡◌, ℕ, List, Option, Some, None, option_map}
use Rattle.std.specs.Str.{bytes_eq}
use Rattle.std.specs.HashMap.{HashMap, get_by}
use Rattle.std.specs.declared.hash.FoldHasher.{FoldHasher}
use Rattle.std.specs.declared.hash.BuildHasherDefault.{BuildHasherDefault}
use Rattle.std.proofs.Common.{Bor}
use Rattle.rtl_ir.specs.declared.ports.PortLine.{PortLine}
use Rattle.rtl_ir.specs.Types.{Ports, port_named}
use Rattle.rtl_ir.specs.Types as rtl
use Rattle.net_index.specs.declared.types.CellType.{CellType}
use Rattle.net_index.specs.declared.types.CellType.TheVariants.{Library, Instance, Unsupported, Unknown}
use Rattle.net_index.specs.declared.types.Port.{Port}
use Rattle.net_index.specs.declared.types.Types.{Types}

-- a table with names as its keys
abbrev pub Named : Type 0 → Type 0
Named A = HashMap (Bor (List ℕ)) A (BuildHasherDefault FoldHasher)

-- what a table has at a name
abbrev pub at_name : {A : Type 0} → Named A → List ℕ → Option A
at_name table name = get_by (λ (k : Bor (List ℕ)). bytes_eq name k.now) table

-- a port, as far as a pin has to fit it
abbrev pub port_of : PortLine → Port
port_of line = record { role = line.role; width = line.width }

-- the table has these ports, each by its name
abbrev pub IsTable : Named Port → List PortLine → Type 0
IsTable table lines = (name : List ℕ) → at_name table name ≡ option_map port_of (port_named lines name)

-- a table of ports stands for ports that may be there
abbrev pub Stands : Option (Named Port) → Option (List PortLine) → Type 0
Stands None None = Unit {0}
Stands (Some table) (Some lines) = IsTable table lines
Stands None (Some lines) = ⊥
Stands (Some table) None = ⊥

-- the tables have the ports of these modules, each by its name
abbrev pub AreTypes : Types → Ports → Type 0
AreTypes types ports = (name : List ℕ) → Stands (at_name types.modules name) (ports name)

-- a type names this, with the ports of a module in a table
abbrev pub IsType : CellType → rtl.CellType → Type 0
IsType (Library kind) (rtl.Library other) = kind ≡ other
IsType (Instance table) (rtl.Instance lines) = IsTable table.now lines
IsType Unsupported rtl.Unsupported = Unit {0}
IsType Unknown rtl.Unknown = Unit {0}
IsType type other = ⊥
