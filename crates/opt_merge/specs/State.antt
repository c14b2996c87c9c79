-- Where a sweep over the cells of a module stands.
use Rattle.std.specs.Prelude.{◌≡◌, ◌⊎◌, ◌+◌, ◌≤◌, ◌<◌, ℕ, List, [], ◌∷◌, Option, Some, None, length, map, flat_map, drop, suc, if◌then◌else◌, slice_get, slice_index_or}
use Rattle.rtl_bits.specs.declared.bit.Bit.{Bit}
use Rattle.rtl_sig.specs.declared.sig.SigBit.{SigBit}
use Rattle.rtl_sig.specs.declared.sig.SigBit.TheVariants.{Wire as OnWire}
use Rattle.rtl_sig.specs.declared.sig.WireBit.{WireBit}
use Rattle.cell_types.specs.declared.kind.CellKind.{CellKind}
use Rattle.rtl_ir.specs.declared.cell.Cell.{Cell}
use Rattle.rtl_ir.specs.declared.module.Link.{Link}
use Rattle.rtl_ir.specs.declared.wire.Wire.{Wire}
use Rattle.rtl_ir.specs.Flat.Start.{start_of}
use Rattle.rtl_ir.specs.Follow.{all_joins, follow}
use Rattle.rtl_ir.specs.declared.follow.Join.{Join}
use Rattle.rtl_ir.specs.Signals.{same_bit}
use Rattle.net_model.specs.Lists.{In}
use Rattle.opt_merge.specs.declared.merger.Merger.{Merger}
use Rattle.opt_merge.specs.Entries.{IsTable, kind_at, traits_at}
use Rattle.opt_merge.specs.Merge.{Merging, bits_by}
use Rattle.opt_merge.specs.Late.{late_at}
use Rattle.opt_merge.specs.Reading.{HasReaders}
use Rattle.opt_merge.specs.Rows.{row_of}
use Rattle.opt_merge.specs.Traits.{merging_kind, traits_of}
use Rattle.opt_merge.specs.View.{IsView}

-- how often a bit is among these
abbrev pub times : WireBit → List WireBit → ℕ
times b [] = 0
times b (x ∷ bits) = if same_bit x b then suc (times b bits) else times b bits

-- how often a bit is driven by these cells
abbrev pub driven_by : WireBit → List Cell → ℕ
driven_by b cells = times b (flat_map bits_by cells)

-- how often a bit is driven by connections
abbrev pub linked_by : WireBit → List Link → ℕ
linked_by b links = times b (map (λ (j : Join). j.bit) (all_joins links))

-- no bit that cells drive is driven twice, by the cells that stay, the connections, and the cells to come
abbrev pub IsDrivenOnce : Merging → List Cell → Type 0
IsDrivenOnce s rest =
    (b : WireBit) → 1 ≤ driven_by b s.cells + driven_by b rest →
    driven_by b s.cells + linked_by b s.links + driven_by b rest ≤ 1

-- where a bit leads to now it led before, or a cell that stays drives it
abbrev pub LedBefore : List Link → Merging → Type 0
LedBefore before s =
    (x : SigBit) (b : WireBit) → follow s.links x ≡ OnWire b → (follow before x ≡ OnWire b) ⊎ (1 ≤ driven_by b s.cells)

-- the kinds of the cells at these places are noted, if they may be merged, and no others
pub record AreNoted (cells : List Cell) (places : List ℕ) (kinds : List (Option CellKind)) : Type 0 where
  pub count : length kinds ≡ length cells
  pub sound :
      (at : ℕ) (kind : CellKind) → slice_index_or kinds at None ≡ Some kind → In at places × (kind_at cells at ≡ Some kind)
  pub full :
      (at : ℕ) (kind : CellKind) → In at places → kind_at cells at ≡ Some kind → slice_index_or kinds at None ≡ Some kind

-- the rows of the cells at these places are as long as is noted, over any connections
pub record AreMeasured (start : SigBit → Bit) (cells : List Cell) (places lengths : List ℕ) : Type 0 where
  pub count : length lengths ≡ length cells
  pub each :
      (at : ℕ) → In at places → (c : Cell) → slice_get cells at ≡ Some c → (kind : CellKind) → merging_kind c ≡ Some kind →
      (links : List Link) → slice_index_or lengths at 0 ≡ length (row_of (traits_of start links kind c))

-- each place is behind those before it
abbrev pub IsRising : List ℕ → Type 0
IsRising [] = Unit {0}
IsRising (at ∷ places) = ((later : ℕ) → In later places → at < later) × IsRising places

-- the cells before a place were visited, from these wires, connections and cells on
pub record IsState (m : Merger) (wires : List Wire) (before : List Link) (cells : List Cell) (at : ℕ) (s : Merging) : Type 0 where
  pub view : IsView m.entries.view wires s.links
  pub table : IsTable (traits_at (start_of wires []) s.links cells) s.links m.kept.items (late_at m.entries.late) m.entries.table
  pub noted : AreNoted cells m.kept.items m.entries.kinds.items
  pub measured : AreMeasured (start_of wires []) cells m.kept.items m.entries.lengths.items
  pub kept : map (slice_get cells) m.kept.items ≡ map Some s.cells
  pub rising : IsRising m.kept.items
  pub below : (place : ℕ) → In place m.kept.items → place < at
  pub readers : HasReaders before cells m.readers
  pub links : m.links ≡ s.links
  pub driven : IsDrivenOnce s (drop at cells)
  pub led : LedBefore before s
