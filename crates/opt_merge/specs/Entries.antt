-- The cells that a table has by their traits.
use Rattle.std.specs.Prelude.{◌≡◌, ◌⊎◌, ◌≤◌, ℕ, List, [], ◌∷◌, ◌++◌, Option, Some, None, length, option_map, slice_get, slice_index_or}
use Rattle.std.specs.Option.{option_map_or}
use Rattle.rtl_bits.specs.declared.bit.Bit.{Bit}
use Rattle.rtl_sig.specs.declared.sig.SigBit.{SigBit}
use Rattle.cell_types.specs.declared.kind.CellKind.{CellKind}
use Rattle.rtl_ir.specs.declared.cell.Cell.{Cell}
use Rattle.rtl_ir.specs.declared.module.Link.{Link}
use Rattle.rtl_ir.specs.declared.wire.Wire.{Wire}
use Rattle.rtl_ir.specs.Flat.Start.{start_of}
use Rattle.rtl_ir.specs.Follow.{follow}
use Rattle.net_model.specs.Lists.{In}
use Rattle.opt_merge.specs.declared.entries.Entries.{Entries}
use Rattle.opt_merge.specs.declared.table.Table.{Table}
use Rattle.opt_merge.specs.Among.{AreAmong}
use Rattle.opt_merge.specs.Late.{late_at}
use Rattle.opt_merge.specs.Merge.{traits_by}
use Rattle.opt_merge.specs.Rows.{row_of}
use Rattle.opt_merge.specs.Table.{at_row}
use Rattle.opt_merge.specs.Traits.{Traits, merging_kind, traits_of}
use Rattle.opt_merge.specs.View.{IsView}

-- the traits of the cell at a place, if it may be merged
abbrev pub traits_at : (SigBit → Bit) → List Link → List Cell → ℕ → Option Traits
traits_at start links cells at = option_map_or (traits_by start links) (slice_get cells at) None

-- the kind of the cell at a place, if it may be merged
abbrev pub kind_at : List Cell → ℕ → Option CellKind
kind_at cells at = option_map_or merging_kind (slice_get cells at) None

-- the traits of the cell at a place, as one of a kind
abbrev pub kind_traits : (SigBit → Bit) → List Link → CellKind → List Cell → ℕ → Option Traits
kind_traits start links kind cells at = option_map (traits_of start links kind) (slice_get cells at)

-- the traits of the cell at a place, if its kind is noted there
abbrev pub noted_at : (SigBit → Bit) → List Link → List (Option CellKind) → List Cell → ℕ → Option Traits
noted_at start links kinds cells at =
    option_map_or (λ kind. kind_traits start links kind cells at) (slice_index_or kinds at None) None

-- each input of these traits is where it leads back to
abbrev pub AreEnds : List Link → Traits → Type 0
AreEnds links t = (signal : List SigBit) → In signal t.inputs → (s : SigBit) → In s signal → follow links s ≡ s

-- a place is at this row, and none behind it
abbrev pub HasBefore : Table → List ℕ → ℕ → Type 0
HasBefore table row at = (first : ℕ) × (at_row table row ≡ Some first) × (first ≤ at)

-- the table has the first of the places whose cells have these traits, but for the places that are late, by the lengths of rows
pub record IsTable (traits : ℕ → Option Traits) (links : List Link) (places : List ℕ) (late : ℕ → List ℕ) (table : Table) : Type 0 where
  pub sound :
      (t : Traits) → AreEnds links t → (at : ℕ) → at_row table (row_of t) ≡ Some at → In at places × (traits at ≡ Some t)
  pub full :
      (t : Traits) → AreEnds links t → (at : ℕ) → In at places → traits at ≡ Some t →
      HasBefore table (row_of t) at ⊎ In at (late (length (row_of t)))

-- cells with these traits were put into a table, those at the places of the list among them
pub record Enters (traits : ℕ → Option Traits) (old new : Table) (places : List ℕ) : Type 0 where
  pub sound :
      (t : Traits) (at : ℕ) → at_row new (row_of t) ≡ Some at → (at_row old (row_of t) ≡ Some at) ⊎ (traits at ≡ Some t)
  pub stays : (row : List ℕ) (at : ℕ) → at_row old row ≡ Some at → HasBefore new row at
  pub full : (at : ℕ) → In at places → (t : Traits) → traits at ≡ Some t → HasBefore new (row_of t) at

-- cells with these traits were put into a table: what is late no more was put there
pub record Entered (traits : ℕ → Option Traits) (before after : ℕ → List ℕ) (old new : Table) : Type 0 where
  pub sound :
      (t : Traits) (at : ℕ) → at_row new (row_of t) ≡ Some at → (at_row old (row_of t) ≡ Some at) ⊎ (traits at ≡ Some t)
  pub stays : (row : List ℕ) (at : ℕ) → at_row old row ≡ Some at → HasBefore new row at
  pub full :
      (row at : ℕ) → In at (before row) → (t : Traits) → traits at ≡ Some t → HasBefore new (row_of t) at ⊎ In at (after row)

-- the cells at these places whose kinds are noted were put into the table, by what they read
abbrev pub EntersPlaces : Entries → Entries → List Cell → List ℕ → Type 0
EntersPlaces old new cells places =
    (wires : List Wire) (links : List Link) → IsView old.view wires links →
    Enters (noted_at (start_of wires []) links old.kinds.items cells) old.table new.table places

-- the kinds and lengths that are noted stay, and what is late
pub record KeepsNotes (old new : Entries) : Type 0 where
  pub kinds : new.kinds ≡ old.kinds
  pub lengths : new.lengths ≡ old.lengths
  pub late : new.late ≡ old.late

-- no cell is late any more whose row is about so long, and those that were late before were put into the table or are late
-- still
pub record Settles (old new : Entries) (cells : List Cell) (row : ℕ) : Type 0 where
  pub none : late_at new.late row ≡ []
  pub kinds : new.kinds ≡ old.kinds
  pub lengths : new.lengths ≡ old.lengths
  pub enters :
      (wires : List Wire) (links : List Link) → IsView old.view wires links →
      Entered (noted_at (start_of wires []) links old.kinds.items cells) (late_at old.late) (late_at new.late) old.table new.table

-- a cell at a place is late, if its kind is noted
abbrev pub IsMarked : Entries → Entries → ℕ → Type 0
IsMarked old new at =
    (kind : CellKind) → slice_index_or old.kinds.items at None ≡ Some kind →
    In at (late_at new.late (slice_index_or old.lengths.items at 0))

-- all that was late is late
abbrev pub StaysLate : Entries → Entries → Type 0
StaysLate old new = (row : ℕ) → AreAmong (late_at old.late row) (late_at new.late row)

-- the cells at these places are late, those whose kinds are noted, and all that were late before; else nothing changed
pub record Marks (old new : Entries) (places : List ℕ) : Type 0 where
  pub marked : (at : ℕ) → In at places → IsMarked old new at
  pub stays : StaysLate old new
  pub view : new.view ≡ old.view
  pub table : new.table ≡ old.table
  pub kinds : new.kinds ≡ old.kinds
  pub lengths : new.lengths ≡ old.lengths

-- the connections with one more
abbrev pub linked : List Link → List SigBit → List SigBit → List Link
linked links left right = links ++ record { left = left; right = right } ∷ []

-- the entries after a connection more: they see these connections, and the cells at these places are late
pub record JoinsEntries (old new : Entries) (wires : List Wire) (links : List Link) (places : List ℕ) : Type 0 where
  pub view : IsView new.view wires links
  pub marked : (at : ℕ) → In at places → IsMarked old new at
  pub stays : StaysLate old new
  pub table : new.table ≡ old.table
  pub kinds : new.kinds ≡ old.kinds
  pub lengths : new.lengths ≡ old.lengths
