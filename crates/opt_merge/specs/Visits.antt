-- How the sweep goes on: where it stands before a cell, and where after it.
use Rattle.std.specs.Prelude.{◌≡◌, ◌+◌, ℕ, List, [], Option, Some, None, length, slice_get}
use Rattle.cell_types.specs.declared.kind.CellKind.{CellKind}
use Rattle.rtl_ir.specs.declared.cell.Cell.{Cell}
use Rattle.rtl_ir.specs.declared.module.Link.{Link}
use Rattle.rtl_ir.specs.declared.wire.Wire.{Wire}
use Rattle.rtl_ir.specs.Flat.Start.{start_of}
use Rattle.opt_merge.specs.declared.merger.Merger.{Merger}
use Rattle.opt_merge.specs.Late.{late_at}
use Rattle.opt_merge.specs.Merge.{Merging, after_cells, after_kind}
use Rattle.opt_merge.specs.Rows.{row_of}
use Rattle.opt_merge.specs.State.{IsState}
use Rattle.opt_merge.specs.Table.{at_row}
use Rattle.opt_merge.specs.Traits.{merging_kind, traits_of}

-- all of these cells were visited
abbrev pub VisitsAll : Merger → Merger → List Cell → Type 0
VisitsAll old new cells =
    (wires : List Wire) (before : List Link) (s : Merging) → IsState old wires before cells 0 s →
    (at : ℕ) × IsState new wires before cells at (after_cells (start_of wires []) s cells)

-- the cell at a place was visited
abbrev pub Visits : Merger → Merger → List Cell → ℕ → Type 0
Visits old new cells at =
    (wires : List Wire) (before : List Link) (s : Merging) (c : Cell) → slice_get cells at ≡ Some c →
    IsState old wires before cells at s →
    IsState new wires before cells (at + 1) (after_kind (start_of wires []) s c (merging_kind c))

-- it was visited as a cell of this kind, or as none that may be merged
abbrev pub VisitsAs : Merger → Merger → List Cell → ℕ → Option CellKind → Type 0
VisitsAs old new cells at kind =
    (wires : List Wire) (before : List Link) (s : Merging) (c : Cell) → slice_get cells at ≡ Some c →
    merging_kind c ≡ kind → IsState old wires before cells at s →
    IsState new wires before cells (at + 1) (after_kind (start_of wires []) s c kind)

-- .. where this is its row, and no cell before has it
abbrev pub VisitsFirst : Merger → Merger → List Cell → ℕ → CellKind → List ℕ → Type 0
VisitsFirst old new cells at kind row =
    (wires : List Wire) (before : List Link) (s : Merging) (c : Cell) → slice_get cells at ≡ Some c →
    merging_kind c ≡ Some kind → row ≡ row_of (traits_of (start_of wires []) s.links kind c) →
    at_row old.entries.table row ≡ None → late_at old.entries.late (length row) ≡ [] → IsState old wires before cells at s →
    IsState new wires before cells (at + 1) (after_kind (start_of wires []) s c (Some kind))

-- .. where the cell at an earlier place has its row
abbrev pub VisitsSame : Merger → Merger → List Cell → ℕ → CellKind → ℕ → Type 0
VisitsSame old new cells at kind first =
    (wires : List Wire) (before : List Link) (s : Merging) (c : Cell) → slice_get cells at ≡ Some c →
    merging_kind c ≡ Some kind →
    at_row old.entries.table (row_of (traits_of (start_of wires []) s.links kind c)) ≡ Some first →
    late_at old.entries.late (length (row_of (traits_of (start_of wires []) s.links kind c))) ≡ [] →
    IsState old wires before cells at s →
    IsState new wires before cells (at + 1) (after_kind (start_of wires []) s c (Some kind))
