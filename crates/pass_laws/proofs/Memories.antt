-- Memories keep their rows where cells that are none of a memory come in the place of one that is none.
use Rattle.std.proofs.Common.{◌≡◌, Bool, false, List, [], ◌∷◌, ◌++◌, Option, Some, None, inl, inr, refl, sym, ◌∙◌, ap, subst}
use Rattle.std.specs.Prelude.{filter, flat_map, map, ◌&&◌}
use Rattle.std.proofs.lemmas.List.Elements.{filter-append}
use Rattle.cell_types.specs.declared.kind.CellKind.{CellKind}
use Rattle.cell_types.specs.declared.kind.CellKind.TheVariants as Cells
use Rattle.rtl_ir.specs.Faults.Cells.{is_memory_kind}
use Rattle.rtl_ir.specs.Flat.Access.{cell_access, cell_accesses, in_access_order, next_number, rule_accesses}
use Rattle.rtl_ir.specs.Flat.Cell.{cell_kind}
use Rattle.rtl_ir.specs.Flat.Memory.{in_priority_order, init_cells, is_init_kind, is_read_kind, memories_rows, memory_rows, read_rows, reading_cells, word_rows}
use Rattle.rtl_ir.specs.Flat.Place.{Path}
use Rattle.rtl_ir.specs.WritePorts.{is_of_memory}
use Rattle.rtl_ir.specs.declared.cell.Cell.{Cell}
use Rattle.rtl_ir.specs.declared.process.Process.{Process}
use Rattle.rtl_ir.specs.declared.store.Store.{Store}
use Rattle.rtl_ir.specs.declared.wire.Wire.{Wire}
use Rattle.net_model.specs.Within.{Each}
use Rattle.pass_laws.specs.Replaces.{IsOutside}
use Rattle.pass_laws.proofs.Accesses.{filter_none, no_write, writes_to}

-- a cell that is none of a memory reads none, and gives no start words
read_none : (o : Option CellKind) → ((kind : CellKind) → o ≡ Some kind → is_memory_kind kind ≡ false) → is_read_kind o ≡ false
read_none None h = refl
read_none (Some (Cells.Word kind)) h = refl
read_none (Some (Cells.Gate kind)) h = refl
read_none (Some (Cells.Storage kind)) h = refl
read_none (Some (Cells.StorageGate kind)) h = refl
read_none (Some (Cells.Memory kind)) h = let e = h (Cells.Memory kind) refl in absurd (cc)

init_none : (o : Option CellKind) → ((kind : CellKind) → o ≡ Some kind → is_memory_kind kind ≡ false) → is_init_kind o ≡ false
init_none None h = refl
init_none (Some (Cells.Word kind)) h = refl
init_none (Some (Cells.Gate kind)) h = refl
init_none (Some (Cells.Storage kind)) h = refl
init_none (Some (Cells.StorageGate kind)) h = refl
init_none (Some (Cells.Memory kind)) h = let e = h (Cells.Memory kind) refl in absurd (cc)

-- a test that no such cell passes finds none of them
pub filter_outside : (test : Cell → Bool) → ((c : Cell) → IsOutside c → test c ≡ false) → (cs : List Cell) → Each IsOutside cs → filter test cs ≡ []
filter_outside test h cs outside = filter_none test cs (λ c i. h c (outside c i))

module _ (pre : List Cell) (c : Cell) (post here : List Cell) (outside : IsOutside c) (outsides : Each IsOutside here) where
  filter_same : (test : Cell → Bool) → ((d : Cell) → IsOutside d → test d ≡ false) → filter test (pre ++ (here ++ post)) ≡ filter test (pre ++ c ∷ post)
  filter_same test h =
      filter-append test pre (here ++ post)
      ∙ ap (λ z. filter test pre ++ z) (filter-append test here post ∙ ap (λ z. z ++ filter test post) (filter_outside test h here outsides ∙ sym (filter_outside test h (c ∷ []) one)) ∙ sym (filter-append test (c ∷ []) post))
      ∙ sym (filter-append test pre (c ∷ post))
    where
      one : Each IsOutside (c ∷ [])
      one d (inl e) = subst IsOutside (sym e) outside
      one d (inr i) = absurd i

  same_accesses : (name : List _) → cell_accesses name (pre ++ (here ++ post)) ≡ cell_accesses name (pre ++ c ∷ post)
  same_accesses name =
      ap (λ cs. in_access_order (map cell_access cs)) (filter_same (writes_to name) (λ d o. ap (λ t. t && is_of_memory name d) (no_write d o)))

  same_inits : (name : List _) → init_cells name (pre ++ (here ++ post)) ≡ init_cells name (pre ++ c ∷ post)
  same_inits name =
      ap (in_priority_order []) (filter_same (λ (d : Cell). is_init_kind (cell_kind d) && is_of_memory name d) (λ d o. ap (λ t. t && is_of_memory name d) (init_none (cell_kind d) o)))

  same_readers : (name : List _) → reading_cells name (pre ++ (here ++ post)) ≡ reading_cells name (pre ++ c ∷ post)
  same_readers name =
      filter_same (λ (d : Cell). is_read_kind (cell_kind d) && is_of_memory name d) (λ d o. ap (λ t. t && is_of_memory name d) (read_none (cell_kind d) o))

  memory_same : (p : Path) (wires : List Wire) (processes : List Process) (s : Store) → memory_rows p wires (pre ++ (here ++ post)) processes s ≡ memory_rows p wires (pre ++ c ∷ post) processes s
  memory_same p wires processes s =
      λ i. word_rows p wires s (same_accesses s.name i ++ rule_accesses s.name (next_number (same_accesses s.name i)) (flat_map (λ (q : Process). q.syncs) processes)) (same_inits s.name i) ++ flat_map (read_rows p wires s) (same_readers s.name i)

pub memories_same : (p : Path) (wires : List Wire) (processes : List Process) (pre : List Cell) (c : Cell) (post here : List Cell) → IsOutside c → Each IsOutside here → (stores : List Store) → memories_rows p wires (pre ++ (here ++ post)) processes stores ≡ memories_rows p wires (pre ++ c ∷ post) processes stores
memories_same p wires processes pre c post here outside outsides [] = refl
memories_same p wires processes pre c post here outside outsides (s ∷ ss) =
    λ i. memory_same pre c post here outside outsides p wires processes s i ++ memories_same p wires processes pre c post here outside outsides ss i
