-- The modules of a design by their names.
use Rattle.std.specs.Prelude.{◌≡◌, ℕ, List, map, filter, Option, Some, None}
use Rattle.std.proofs.Common.{Bor}
use Rattle.rtl_ir.specs.declared.module.Module.{Module}
use Rattle.rtl_ir.specs.declared.wire.Wire.{Wire}
use Rattle.rtl_ir.specs.Flat.Cell.{Ports}
use Rattle.rtl_ir.specs.Flat.Place.{Path}
use Rattle.rtl_ir.specs.Flat.Rows.{rows_of}
use Rattle.rtl_ir.specs.Flat.Tree.{named}
use Rattle.rtl_ir.specs.Ports.{is_port, in_number_order}
use Rattle.net_index.specs.Types.{at_name}
use Rattle.flat_net.specs.declared.modules.Entry.{Entry}
use Rattle.flat_net.specs.declared.modules.Table.{Table}

-- the wires that are ports, in order of their numbers
abbrev pub ports_in : List Wire → List Wire
ports_in wires = in_number_order (filter (λ w. is_port w.role) wires)

-- what references point to
abbrev pub all_now : List (Bor Wire) → List Wire
all_now wires = map (λ (w : Bor Wire). w.now) wires

-- an entry is a module, which may stand under another name, with its ports in order of their numbers
pub record IsEntry (e : Entry) (m : Module) : Type 0 where
  pub rows : (ports : Ports) (p : Path) → rows_of ports p e.body.now ≡ rows_of ports p m
  pub cells : e.body.now.cells ≡ m.cells
  pub ports : all_now e.ports.items ≡ ports_in m.wires

-- an entry stands for a module that may be there
abbrev pub Stands : Option Entry → Option Module → Type 0
Stands None None = Unit {0}
Stands (Some e) (Some m) = IsEntry e m
Stands None (Some m) = ⊥
Stands (Some e) None = ⊥

-- the table has these modules, each by its name
abbrev pub IsTable : Table → List Module → Type 0
IsTable table modules = (name : List ℕ) → Stands (at_name table.modules name) (named modules name)
