-- A module without processes in which a memory becomes words keeps to what the wires say of the words, and so refines the module.
use Rattle.std.proofs.Common.{◌≡◌, ◌≤◌, ℕ, ◌+◌, List, [], ◌∷◌, ◌++◌, length, Some, inl, inr, ⊎_elim, refl, sym, ◌∙◌, ap, subst, arith}
use Rattle.std.specs.Prelude.{filter, flat_map, map, nat_abs, slice_get}
use Rattle.std.specs.List.{range_with_len}
use Rattle.std.proofs.lemmas.List.{append-nil}
use Rattle.rtl_bits.specs.Knowledge.{Below}
use Rattle.rtl_bits.specs.declared.bit.Bit.{Bit}
use Rattle.rtl_sig.specs.declared.sig.SigBit.{SigBit}
use Rattle.rtl_ir.specs.Flat.Cell.{Ports, cell_kind, cell_rows, cells_rows, instances}
use Rattle.rtl_ir.specs.Flat.Driver.{Driven}
use Rattle.rtl_ir.specs.Flat.Link.{link_rows}
use Rattle.rtl_ir.specs.Flat.Memory.{addresses_of, init_cells, memories_rows, memory_rows, read_rows, reading_cells, word_row, word_rows}
use Rattle.rtl_ir.specs.Flat.Place.{Frame, Path, Place}
use Rattle.rtl_ir.specs.Flat.Point.{bit_place}
use Rattle.rtl_ir.specs.Flat.Reads.{read_points}
use Rattle.rtl_ir.specs.Flat.Rows.{plain_rows, rows_of}
use Rattle.rtl_ir.specs.declared.cell.Cell.{Cell}
use Rattle.rtl_ir.specs.declared.module.Module.{Module}
use Rattle.rtl_ir.specs.declared.store.Store.{Store}
use Rattle.rtl_ir.specs.declared.wire.Wire.{Wire}
use Rattle.rtl_sig.specs.declared.sig.WireBit.{WireBit}
use Rattle.net_model.proofs.Grown.{grown_refines, ports_more}
use Rattle.net_model.proofs.Lifted.{related, row_stays}
use Rattle.net_model.proofs.Members.{In-cases, In-left, In-mapped, In-right}
use Rattle.net_model.proofs.Swapping.{instances-append, rows-append}
use Rattle.net_model.specs.Lists.{In}
use Rattle.net_model.specs.Mem.Expand.{expanded_memory, without_memory}
use Rattle.net_model.specs.Refine.{RefinesOver}
use Rattle.net_model.specs.Relate.{KeepsTo, Reached, Related, RowsRelate, SameMoment}
use Rattle.net_model.specs.Run.{Time}
use Rattle.net_model.specs.Valuation.{Valuation}
use Rattle.net_model.specs.Value.{value_of}
use Rattle.net_model.specs.Within.{Each, IsWithin, with_wires}
use Rattle.pass_laws.proofs.Passes.{refines_in_turn}
use Rattle.pass_laws.proofs.Rewriting.{links-append}
use Rattle.build_laws.proofs.Staying.{memories_same}
use Rattle.memory_laws.proofs.FreeRows.{IsFreeRow, free_cells, free_links, free_memories, free_places}
use Rattle.net_model.proofs.MemoryCells.{stays}
use Rattle.memory_laws.proofs.KeptRows.{apart_from_one, cells_stay, instances_stay, memories_stay, no_instances, without, without_is}
use Rattle.memory_laws.proofs.MemoryThere.{IsBuilt, before, grown, in_range, plan, says, start, wires, words, writes, writes_are}
use Rattle.memory_laws.proofs.PortSteps.{AreWide}
use Rattle.memory_laws.proofs.ReadKept.{read_kept}
use Rattle.memory_laws.proofs.Saying.{below_free, free_below, unknown_said, word_own}
use Rattle.memory_laws.proofs.WordKept.{word_kept}
use Rattle.build_laws.proofs.Built.{still_driven}

-- the rows of one cell are among those of all
rows_among : (begun : SigBit → Bit) (ports : Ports) (p : Path) (ws : List Wire) (cells : List Cell) (c : Cell) → In c cells → (d : Driven) → In d (cell_rows begun ports p ws c (cell_kind c)) → In d (cells_rows begun ports p ws cells)
rows_among begun ports p ws [] c i d j = absurd i
rows_among begun ports p ws (x ∷ cells) c (inl e) d j =
    In-left d _ _ (subst (λ z. In d (cell_rows begun ports p ws z (cell_kind z))) e j)
rows_among begun ports p ws (x ∷ cells) c (inr i) d j =
    In-right d (cell_rows begun ports p ws x (cell_kind x)) _ (rows_among begun ports p ws cells c i d j)

longer : (f : Frame) (p : Path) → f ∷ p ≡ p → ⊥
longer f p e = let n : length (f ∷ p) ≡ length p = ap length e in absurd (omega arith)

-- a row of a list of lists
in_flat : {A B : Type 0} (f : A → List B) (xs : List A) (y : B) → In y (flat_map f xs) → (x : A) × In x xs × In y (f x)
in_flat f [] y i = absurd i
in_flat f (x ∷ xs) y i =
    ⊎_elim (λ l. (x, inl refl, l)) (λ r. let k = in_flat f xs y r in (k.0, inr k.1, k.2)) (In-cases y (f x) (flat_map f xs) i)

module _ (n : Module) (s : Store) (place : ℕ) (there : slice_get n.memories place ≡ Some s) (apart : Each (λ (r : Store). r.name ≡ s.name → ⊥) (without place n.memories)) (few : s.width ≤ 65536) (wide : AreWide s.width (plan n s place).writes) where
  abbrev cells_after : List Cell
  cells_after = filter (stays s.name) ((before n s place).cells ++ (grown n s place).cells)

  -- the module after the memory, by what is added
  abbrev after : Module
  after = record n {
    cells = cells_after;
    wires = wires n s place;
    links = n.links ++ (grown n s place).links;
    processes = [];
    memories = without place n.memories;
  }

  abbrev grown_wires : Module
  grown_wires = with_wires (grown n s place).wires (before n s place)

  after_is : expanded_memory (before n s place) (plan n s place) s ≡ after
  after_is =
      ap (without_memory place s) (grown n s place).body
      ∙ (λ i. record n { cells = cells_after; wires = wires n s place; links = n.links ++ (grown n s place).links; processes = []; memories = without_is place n.memories i })

  module _ (over : Ports) (p : Path) where
    abbrev frames : List Frame
    frames = instances n.cells

    abbrev cells : List Driven
    cells = cells_rows (start n s place) over p (wires n s place) cells_after

    abbrev links : List Driven
    links = link_rows p (wires n s place) (n.links ++ (grown n s place).links)

    abbrev memories : List Driven
    memories = memories_rows p (wires n s place) cells_after [] (without place n.memories)

    abbrev rows : List Driven
    rows = rows_of over p after

    -- rows that stay
    cell_there : (x : Driven) → In x (cells_rows (start n s place) over p (wires n s place) (n.cells ++ (grown n s place).cells)) → In x rows
    cell_there x i =
        In-left x cells (links ++ memories) (cells_stay s.name (start n s place) over p (wires n s place) (n.cells ++ (grown n s place).cells) x i)

    old_cell_there : (x : Driven) → In x (cells_rows (start n s place) over p (wires n s place) n.cells) → In x rows
    old_cell_there x i =
        cell_there x (subst (In x) (sym (rows-append (start n s place) over p (wires n s place) n.cells (grown n s place).cells)) (In-left x _ _ i))

    link_there : (x : Driven) → In x links → In x rows
    link_there x i = In-right x cells (links ++ memories) (In-left x links memories i)

    old_link_there : (x : Driven) → In x (link_rows p (wires n s place) n.links) → In x rows
    old_link_there x i =
        link_there x (subst (In x) (sym (links-append p (wires n s place) n.links (grown n s place).links)) (In-left x _ _ i))

    memory_there : (x : Driven) → In x (memories_rows p (wires n s place) n.cells [] (without place n.memories)) → In x rows
    memory_there x i =
        In-right x cells (links ++ memories) (In-right x links memories (subst (In x) (sym (memories_stay s.name p (wires n s place) (n.cells ++ (grown n s place).cells) [] (without place n.memories) apart
        ∙ memories_same p (wires n s place) n.cells (grown n s place).cells [] [] (without place n.memories) (grown n s place).plain (λ name number. refl))) i))

    -- what solves the rows solves what is built
    body : IsBuilt n s place over p rows
    body t w solved = record {
      cells = λ c i d j. solved.met d (cell_there d (rows_among (start n s place) over p (wires n s place) (n.cells ++ (grown n s place).cells) c (subst (In c) (ap (λ (m : Module). m.cells) (grown n s place).body) i) d j));
      links = λ d i. solved.met d (link_there d (subst (λ ls. In d (link_rows p (wires n s place) ls)) (ap (λ (m : Module). m.links) (grown n s place).body) i));
    }

    module _ (t u : Time Place) (st : SameMoment over frames (says n s place) p t u) (v w : Valuation) (rel : Related over frames (says n s place) p v w) (r : ℕ) (reached : Reached r rows u w) where
      abbrev Keeps : Driven → Type 0
      Keeps x = KeepsTo over frames (says n s place) p w x.place (value_of x.driver t v)

      free_keeps : (x : Driven) → IsFreeRow s.name x → In x (rows_of over p grown_wires) → In x rows → Keeps x
      free_keeps x free i j =
          let low : Below (value_of x.driver t v) (w x.place) = row_stays grown_wires over (says n s place) rows p t u st v w rel r reached x i j (λ z q k e a l. subst (λ y. Below a (z (record { path = y; spot = q.spot }))) (sym e) (free_below s.name (wires n s place) (words n s place) p z q.spot a (free_places s.name (read_points x.driver) free.read q k) l)) in
          record {
            own = λ e. below_free s.name (wires n s place) (words n s place) p w x.place.spot (value_of x.driver t v) free.place (subst (λ y. Below (value_of x.driver t v) (w (record { path = y; spot = x.place.spot }))) e low);
            outer = λ _. low;
          }

      -- a bit of a word of the memory
      word_keeps : (x : Driven) → In x (word_rows p (wires n s place) s (writes n s place) (init_cells s.name n.cells)) → Keeps x
      word_keeps x i =
          let row = λ (address : ℕ). word_row p (wires n s place) s (writes n s place) (init_cells s.name n.cells) address in
          let a = in_flat (λ address. map (row address) (range_with_len 0 s.width)) (addresses_of s) x i in
          let k = In-mapped (row a.0) x (range_with_len 0 s.width) a.2 in
          let j = in_range (nat_abs s.offset) (nat_abs s.size) a.0 a.1 in
          let b = in_range 0 s.width k.0 k.1 in
          let none : 0 + b.0 ≡ b.0 = omega arith in
          let is : x ≡ row (nat_abs s.offset + j.0) b.0 = k.2 ∙ (λ l. row (j.2 l) ((b.2 ∙ none) l)) in
          let low = word_kept n s place over frames p rows body few wide j.0 b.0 j.1 b.1 t u st v w rel r reached in
          subst Keeps (sym is) (record {
            own = λ e. word_own s.name (wires n s place) (words n s place) p w (nat_abs s.offset + j.0) b.0 _ low;
            outer = λ o. absurd (longer o.0 p (sym o.4));
          })

      -- a bit of a read port of it
      read_keeps : (x : Driven) → In x (flat_map (read_rows p (wires n s place) s) (reading_cells s.name n.cells)) → Keeps x
      read_keeps x i =
          let c = in_flat (read_rows p (wires n s place) s) (reading_cells s.name n.cells) x i in
          let k = read_kept n s place over frames p rows body few t u v w rel r reached c.0 c.1 x c.2 in
          record {
            own = λ e. by k.1 k.2;
            outer = λ _. k.2;
          }
        where
          by : ((b : WireBit) × (x.place ≡ bit_place p (wires n s place) b)) → Below (value_of x.driver t v) (w x.place) → says n s place p w x.place.spot (value_of x.driver t v)
          by b low =
              subst (λ (q : Place). says n s place p w q.spot (value_of x.driver t v)) (sym b.1) (subst (λ q. Below (value_of x.driver t v) (w q)) b.1 low)

      memory_keeps : (x : Driven) → In x (memory_rows p (wires n s place) n.cells [] s) → Keeps x
      memory_keeps x i =
          ⊎_elim
          (λ l. word_keeps x (subst (λ z. In x (word_rows p (wires n s place) s z (init_cells s.name n.cells))) (writes_are n s place) l))
          (λ l. read_keeps x l)
          (In-cases x (word_rows p (wires n s place) s (writes n s place ++ []) (init_cells s.name n.cells)) (flat_map (read_rows p (wires n s place) s) (reading_cells s.name n.cells)) i)

      row_keeps : (x : Driven) → In x (rows_of over p grown_wires) → Keeps x
      row_keeps x i =
          ⊎_elim
          (λ l. free_keeps x (free_cells s.name p (wires n s place) (start n s place) over n.cells x l) i (old_cell_there x l))
          (λ q. ⊎_elim
          (λ l. free_keeps x (free_links s.name p (wires n s place) n.links x l) i (old_link_there x l))
          (λ l. ⊎_elim
          (λ a. memory_keeps x a)
          (λ a. free_keeps x (free_memories s.name p (wires n s place) n.cells [] (without place n.memories) apart x a) i (memory_there x a))
          (apart_from_one (memory_rows p (wires n s place) n.cells []) place n.memories s there x l))
          (In-cases x (link_rows p (wires n s place) n.links) (memories_rows p (wires n s place) n.cells [] n.memories) q))
          (In-cases x (cells_rows (start n s place) over p (wires n s place) n.cells) (plain_rows p grown_wires) i)

  no_children : instances n.cells ≡ instances cells_after
  no_children =
      sym (instances_stay s.name (n.cells ++ (grown n s place).cells) ∙ instances-append n.cells (grown n s place).cells ∙ ap (λ z. instances n.cells ++ z) (no_instances (grown n s place).cells (grown n s place).plain) ∙ append-nil (instances n.cells))

  relates : (over : Ports) → RowsRelate grown_wires after over (says n s place)
  relates over = record {
    id = refl;
    ports_same = refl;
    children = no_children;
    port_to = λ p w line i at lt a h. h;
    port_from = λ p w line i at lt a h. h;
    unknown = λ p w o. unknown_said s.name (wires n s place) (words n s place) p w o;
    rows = λ p t u st v w rel r reached x i. row_keeps over p t u st v w rel r reached x i;
  }

  -- the fresh wires come first
  pub memory_refines : (ports : Ports) → IsWithin (before n s place) → RefinesOver (before n s place) (expanded_memory (before n s place) (plan n s place) s) ports
  memory_refines ports within =
      subst (λ m. RefinesOver (before n s place) m ports) (sym after_is)
      (refines_in_turn (before n s place) grown_wires after ports refl (sym (ports_more n.wires (grown n s place).wires (grown n s place).inner)) refl (λ over agree h. still_driven (before n s place) (grown n s place).wires (grown n s place).inner within over h) (grown_refines (before n s place) (grown n s place).wires ports within (grown n s place).inner) (related grown_wires after ports (says n s place) (relates ports)))
