-- Netlists of gates.
use Rattle.std.specs.Prelude.{Bool, true, false, ◌||◌, List, Option, Some, None}
use Rattle.std.specs.List.{list_all, list_any}
use Rattle.std.specs.Str.{bytes_eq}
use Rattle.cell_types.specs.declared.kind.CellKind.{CellKind}
use Rattle.cell_types.specs.declared.kind.CellKind.TheVariants.{Gate, StorageGate}
use Rattle.rtl_ir.specs.declared.cell.Cell.{Cell}
use Rattle.rtl_ir.specs.declared.module.Design.{Design}
use Rattle.rtl_ir.specs.declared.module.Module.{Module}
use Rattle.rtl_ir.specs.Flat.Cell.{cell_kind}

-- a cell of this kind is a gate, combinational or storage
abbrev pub is_gate : Option CellKind → Bool
is_gate (Some (Gate gate)) = true
is_gate (Some (StorageGate gate)) = true
is_gate kind = false

-- a cell is an instance of one of these modules
abbrev pub is_instance : List Module → Cell → Option CellKind → Bool
is_instance modules c None = list_any (λ (m : Module). bytes_eq m.id c.kind_name) modules
is_instance modules c (Some kind) = false

-- every cell of a design is a gate, or an instance of one of its modules
abbrev pub is_gate_netlist : Design → Bool
is_gate_netlist d =
    list_all (λ (m : Module). list_all (λ (c : Cell). is_gate (cell_kind c) || is_instance d.modules c (cell_kind c)) m.cells) d.modules
