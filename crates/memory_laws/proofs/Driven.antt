-- Where no bit has two drivers, none has after a memory became words.
use Rattle.std.proofs.Common.{◌≡◌, ◌≤◌, ℕ, zero, suc, ◌+◌, Bool, true, false, ◌&&◌, List, [], ◌∷◌, ◌++◌, Some, if◌then◌else◌, ◌⊎◌, inl, inr, ⊎_elim, refl, sym, ◌∙◌, ap, subst, arith}
use Rattle.std.specs.Prelude.{filter, flat_map, map, slice_get}
use Rattle.std.proofs.lemmas.List.{append-nil}
use Rattle.rtl_bits.specs.declared.bit.Bit.{Bit}
use Rattle.rtl_sig.specs.declared.sig.SigBit.{SigBit}
use Rattle.rtl_sig.specs.declared.sig.SigBit.TheVariants.{Fixed, Wire as OnWire}
use Rattle.rtl_sig.specs.declared.sig.WireBit.{WireBit}
use Rattle.cell_types.specs.PinName.{pin_text}
use Rattle.cell_types.specs.declared.pin_name.PinName.TheVariants.{Addr, Data}
use Rattle.rtl_ir.specs.Build.{building_of, first_number, made_number}
use Rattle.rtl_ir.specs.Flat.Cell.{Ports, cell_kind, cells_rows, instances}
use Rattle.rtl_ir.specs.Flat.Driver.{Driven}
use Rattle.rtl_ir.specs.Flat.Link.{link_rows}
use Rattle.rtl_ir.specs.Flat.Memory.{fetched_rows, init_cells, is_read_kind, memories_rows, memory_rows, read_rows, reading_cells, word_rows}
use Rattle.rtl_ir.specs.Flat.Access.{accesses_of}
use Rattle.rtl_ir.specs.Flat.Place.{Frame, IsOf, Path, Place, place_same}
use Rattle.rtl_ir.specs.Flat.Point.{Point, bit_place, points}
use Rattle.rtl_ir.specs.Flat.Rows.{rows_of}
use Rattle.rtl_ir.specs.Flat.Start.{start_of}
use Rattle.rtl_ir.specs.Flat.Tree as flat
use Rattle.rtl_ir.specs.Parameters.{signal_at}
use Rattle.rtl_ir.specs.Ports.{ports_of}
use Rattle.rtl_ir.specs.Signals.{wire_bits}
use Rattle.rtl_ir.specs.WritePorts.{is_of_memory}
use Rattle.rtl_ir.specs.declared.cell.Cell.{Cell}
use Rattle.rtl_ir.specs.declared.module.Module.{Module}
use Rattle.rtl_ir.specs.declared.store.Store.{Store}
use Rattle.rtl_ir.specs.declared.wire.Role.TheVariants.{Input}
use Rattle.rtl_ir.specs.declared.wire.Wire.{Wire}
use Rattle.net_model.proofs.Grown.{ports_more}
use Rattle.net_model.proofs.GrowingMore.{rows_more}
use Rattle.net_model.proofs.Members.{In-map, In-mapped, map-append}
use Rattle.net_model.proofs.Places.{place_same-same}
use Rattle.net_model.proofs.Swapping.{instances-append, rows-append}
use Rattle.net_model.specs.Lists.{Distinct, In}
use Rattle.net_model.specs.Mem.Expand.{expanded_memory, without_memory}
use Rattle.net_model.specs.Mem.Gather.{read_port, read_ports}
use Rattle.net_model.specs.Refine.{IsWellDriven, places_of}
use Rattle.net_model.specs.Within.{Each, IsWithin}
use Rattle.map_laws.proofs.FreshWires.{IsFresh, IsSpotOf, fresh_number, from_spots, in_wire_spots, names_of, old_number, one_name, rising_distinct, rising_fresh, wire_spots, wire_spots_distinct}
use Rattle.pass_laws.proofs.Placing.{bits_places, places_more}
use Rattle.pass_laws.proofs.Rewriting.{links-append}
use Rattle.build_laws.proofs.CountingItems.{distinct_once, in_often, often, often_in, often_more, once_distinct}
use Rattle.build_laws.proofs.RebuildBits.{port_name}
use Rattle.build_laws.proofs.RebuildSpots.{IsKept, rows_kept}
use Rattle.build_laws.proofs.Staying.{memories_same}
use Rattle.net_model.proofs.MemoryCells.{stays}
use Rattle.memory_laws.proofs.KeptRows.{cells_same, instances_stay, memories_stay, no_instances, without, without_is}
use Rattle.memory_laws.proofs.Made.{Makes}
use Rattle.build_laws.proofs.CountingPlaces.{times}
use Rattle.memory_laws.proofs.MadeSteps.{data_bits, memory_makes}
use Rattle.memory_laws.proofs.MemoryThere.{before, built, plan}

-- what is listed for each item is listed for the one at the place, and for the others
times_apart : {A : Type 0} (f : A → List Driven) (at : ℕ) (xs : List A) (s : A) → slice_get xs at ≡ Some s → (q : Place) → times q (places_of (flat_map f xs)) ≡ times q (places_of (f s)) + times q (places_of (flat_map f (without at xs)))
times_apart f at [] s e q = absurd (cc)
times_apart f zero (y ∷ xs) s e q =
    let same : y ≡ s = cc in
    ap (times q) (places_more (f y) (flat_map f xs)) ∙ often_more place_same q (places_of (f y)) (places_of (flat_map f xs)) ∙ ap (λ z. times q (places_of (f z)) + times q (places_of (flat_map f xs))) same
times_apart f (suc at) (y ∷ xs) s e q =
    let here = ap (times q) (places_more (f y) (flat_map f xs)) ∙ often_more place_same q (places_of (f y)) (places_of (flat_map f xs)) in
    let there = ap (times q) (places_more (f y) (flat_map f (without at xs))) ∙ often_more place_same q (places_of (f y)) (places_of (flat_map f (without at xs))) in
    omega (arith, here, there, times_apart f at xs s e q)

-- the bits that read ports give, as ports and as rows
pub ports_bits : (name : List ℕ) (from : ℕ) (cells : List Cell) → data_bits (read_ports name from cells) ≡ flat_map (λ (c : Cell). wire_bits (signal_at c.pins (pin_text Data))) (reading_cells name cells)
ports_bits name from [] = refl
ports_bits name from (c ∷ cells) = by (is_read_kind (cell_kind c) && is_of_memory name c) (ports_bits name (from + 1) cells)
  where
    data_of : Cell → List WireBit
    data_of d = wire_bits (signal_at d.pins (pin_text Data))

    by : (t : Bool) → data_bits (read_ports name (from + 1) cells) ≡ flat_map (λ (d : Cell). wire_bits (signal_at d.pins (pin_text Data))) (reading_cells name cells)
        → data_bits (if t then read_port from c ∷ read_ports name (from + 1) cells else read_ports name (from + 1) cells) ≡ flat_map (λ (d : Cell). wire_bits (signal_at d.pins (pin_text Data))) (if t then c ∷ reading_cells name cells else reading_cells name cells)
    by true h = ap (λ z. wire_bits (signal_at c.pins (pin_text Data)) ++ z) h
    by false h = h

fetched_places : (p : Path) (ws : List Wire) (s : Store) (address : List Point) (ds : List SigBit) (at : ℕ) → places_of (fetched_rows p s address (points p ws ds) at) ≡ bits_places p ws (wire_bits ds)
fetched_places p ws s address [] at = refl
fetched_places p ws s address (Fixed b ∷ ds) at = fetched_places p ws s address ds (suc at)
fetched_places p ws s address (OnWire b ∷ ds) at = ap (λ z. bit_place p ws b ∷ z) (fetched_places p ws s address ds (suc at))

reads_places : (p : Path) (ws : List Wire) (s : Store) (cells : List Cell) → places_of (flat_map (read_rows p ws s) cells) ≡ bits_places p ws (flat_map (λ (c : Cell). wire_bits (signal_at c.pins (pin_text Data))) cells)
reads_places p ws s [] = refl
reads_places p ws s (c ∷ cells) =
    places_more (read_rows p ws s c) (flat_map (read_rows p ws s) cells)
    ∙ (λ i. fetched_places p ws s (points p ws (signal_at c.pins (pin_text Addr))) (signal_at c.pins (pin_text Data)) 0 i ++ reads_places p ws s cells i)
    ∙ sym (map-append (bit_place p ws) (wire_bits (signal_at c.pins (pin_text Data))) (flat_map (λ (d : Cell). wire_bits (signal_at d.pins (pin_text Data))) cells))

module _ (n : Module) (s : Store) (place : ℕ) (there : slice_get n.memories place ≡ Some s) (apart : Each (λ (r : Store). r.name ≡ s.name → ⊥) (without place n.memories)) (within : IsWithin (before n s place)) (few : (built n s place).next ≤ 1000000000) where
  pub made : Makes (building_of (before n s place)) (built n s place) [] (data_bits (plan n s place).reads)
  made = memory_makes (plan n s place) s (building_of (before n s place))

  abbrev pub wires : List Wire
  wires = n.wires ++ made.wires

  abbrev pub cells_after : List Cell
  cells_after = filter (stays s.name) (n.cells ++ made.cells)

  abbrev pub after : Module
  after = record n { cells = cells_after; wires = wires; links = n.links ++ made.links; processes = []; memories = without place n.memories }

  pub after_is : expanded_memory (before n s place) (plan n s place) s ≡ after
  after_is =
      ap (without_memory place s) made.body
      ∙ (λ i. record n { cells = cells_after; wires = wires; links = n.links ++ made.links; processes = []; memories = without_is place n.memories i })

  -- no fresh wire has the name of a wire of the module
  pub names_apart : (name : List ℕ) → In name (names_of n.wires) → In name (names_of made.wires) → ⊥
  names_apart name i j =
      let low : ℕ = first_number (before n s place) in
      let high : ℕ = (built n s place).next in
      let is : IsFresh low high name = rising_fresh low high (names_of made.wires) made.names name j in
      let number : made_number name ≡ is.number = fresh_number low high name (omega arith) few is in
      omega (arith, number, is.above, old_number (before n s place) name i)

  pub fresh_names : Distinct (names_of made.wires)
  fresh_names = rising_distinct (built n s place).next few (first_number (before n s place)) (omega arith) (names_of made.wires) made.names

  module _ (over : Ports) (p : Path) where
    abbrev start : SigBit → Bit
    start = start_of (n.wires ++ made.wires) []

    abbrev rows_before : List Driven
    rows_before = rows_of over p (before n s place)

    abbrev of_cells : List Driven
    of_cells = cells_rows start over p wires n.cells

    abbrev of_links : List Driven
    of_links = link_rows p wires n.links

    abbrev of_memories : List Driven
    of_memories = memories_rows p wires n.cells [] n.memories

    abbrev of_others : List Driven
    of_others = memories_rows p wires n.cells [] (without place n.memories)

    -- a bit of a fresh wire is of no wire that the module had
    fresh_spot : (q : Place) → In q (wire_spots p made.wires) → IsSpotOf p (names_of made.wires) q
    fresh_spot q i = in_wire_spots p made.wires q i

    not_old : (q : Place) → In q (wire_spots p made.wires) → In q (places_of rows_before) → ⊥
    not_old q i j =
        let is = fresh_spot q i in
        let k = In-mapped (λ (x : Driven). x.place) q rows_before j in
        let kept : IsKept p n.wires q = subst (IsKept p n.wires) (sym k.2) (rows_kept over p (before n s place) within (λ b l. absurd l) k.0 k.1) in
        names_apart is.name (kept is.path is.name is.spot) is.there

    module _ (q : Place) where
      both : (xs ys : List Driven) → times q (places_of (xs ++ ys)) ≡ times q (places_of xs) + times q (places_of ys)
      both xs ys = ap (times q) (places_more xs ys) ∙ often_more place_same q (places_of xs) (places_of ys)

      old_times : times q (places_of rows_before) ≡ times q (places_of of_cells) + (times q (places_of of_links) + times q (places_of of_memories))
      old_times =
          ap (λ z. times q (places_of z)) (sym (rows_more over p (before n s place) made.wires within))
          ∙ both of_cells (of_links ++ of_memories)
          ∙ ap (λ z. times q (places_of of_cells) + z) (both of_links of_memories)

      new_times : times q (places_of (rows_of over p after)) ≡ (times q (places_of of_cells) + times q (places_of (cells_rows start over p wires made.cells))) + ((times q (places_of of_links) + times q (places_of (link_rows p wires made.links))) + times q (places_of of_others))
      new_times =
          let cells : cells_rows start over p wires cells_after ≡ of_cells ++ cells_rows start over p wires made.cells = cells_same s.name start over p wires (n.cells ++ made.cells) ∙ rows-append start over p wires n.cells made.cells in
          let links = links-append p wires n.links made.links in
          let memories : memories_rows p wires cells_after [] (without place n.memories) ≡ of_others = memories_stay s.name p wires (n.cells ++ made.cells) [] (without place n.memories) apart ∙ memories_same p wires n.cells made.cells [] [] (without place n.memories) made.plain (λ name number. refl) in
          let all : rows_of over p after ≡ (of_cells ++ cells_rows start over p wires made.cells) ++ ((of_links ++ link_rows p wires made.links) ++ of_others) = (λ i. cells i ++ (links i ++ memories i)) in
          ap (λ z. times q (places_of z)) all
          ∙ both (of_cells ++ cells_rows start over p wires made.cells) ((of_links ++ link_rows p wires made.links) ++ of_others)
          ∙ (λ i. both of_cells (cells_rows start over p wires made.cells) i + (both (of_links ++ link_rows p wires made.links) of_others ∙ ap (λ z. z + times q (places_of of_others)) (both of_links (link_rows p wires made.links))) i)

      -- new connections drive what the read ports gave
      links_low : times q (places_of (link_rows p wires made.links)) + times q (places_of of_others) ≤ times q (places_of of_memories)
      links_low =
          let reading : List Cell = reading_cells s.name n.cells in
          let words : List Driven = word_rows p wires s (accesses_of s.name n.cells []) (init_cells s.name n.cells) in
          let apart' = times_apart (memory_rows p wires n.cells []) place n.memories s there q in
          let parts = both words (flat_map (read_rows p wires s) reading) in
          let reads = ap (times q) (reads_places p wires s reading ∙ ap (bits_places p wires) (sym (ports_bits s.name 0 n.cells))) in
          omega (arith, apart', parts, reads, made.links_low p wires q)

      -- new cells drive fresh wires
      cells_low : times q (places_of (cells_rows start over p wires made.cells)) ≤ times q (wire_spots p made.wires)
      cells_low =
          let spots = ap (times q) (from_spots p n.wires made.wires) in
          omega (arith, spots, made.cells_low start over p wires q)

      once : Distinct (places_of rows_before) → times q (places_of (rows_of over p after)) ≤ 1
      once h = by (times q (wire_spots p made.wires)) refl
        where
          old_once : often place_same q (places_of (rows_of over p (before n s place))) ≤ 1
          old_once = distinct_once place_same place_same-same (places_of (rows_of over p (before n s place))) h q

          fresh_once : often place_same q (wire_spots p made.wires) ≤ 1
          fresh_once = distinct_once place_same place_same-same (wire_spots p made.wires) (wire_spots_distinct p made.wires fresh_names) q

          absent : (k : ℕ) → often place_same q (places_of (rows_of over p (before n s place))) ≡ k → In q (wire_spots p made.wires) → k ≡ 0
          absent zero e i = refl
          absent (suc k) e i = absurd (not_old q i (often_in place_same place_same-same q (places_of (rows_of over p (before n s place))) (omega (arith, e))))

          by : (k : ℕ) → often place_same q (wire_spots p made.wires) ≡ k → often place_same q (places_of (rows_of over p after)) ≤ 1
          by zero e = omega (arith, e, new_times, old_times, links_low, cells_low, old_once)
          by (suc k) e =
              let none = absent (often place_same q (places_of (rows_of over p (before n s place)))) refl (often_in place_same place_same-same q (wire_spots p made.wires) (omega (arith, e))) in
              omega (arith, none, new_times, old_times, links_low, cells_low, fresh_once)

      -- where a bit stands after the step: where one stood before, or on a fresh wire
      origin : In q (places_of (rows_of over p after)) → In q (places_of rows_before) ⊎ In q (wire_spots p made.wires)
      origin i = by (times q (places_of rows_before)) refl
        where
          some : 1 ≤ often place_same q (places_of (rows_of over p after))
          some = in_often place_same place_same-same q (places_of (rows_of over p after)) i

          by : (k : ℕ) → often place_same q (places_of (rows_of over p (before n s place))) ≡ k → In q (places_of (rows_of over p (before n s place))) ⊎ In q (wire_spots p made.wires)
          by (suc k) e = inl (often_in place_same place_same-same q (places_of (rows_of over p (before n s place))) (omega (arith, e)))
          by zero e =
              inr (often_in place_same place_same-same q (wire_spots p made.wires) (omega (arith, e, some, new_times, old_times, links_low, cells_low)))

  same_ports : ports_of wires ≡ ports_of n.wires
  same_ports = ports_more n.wires made.wires made.inner

  same_instances : instances cells_after ≡ instances n.cells
  same_instances =
      instances_stay s.name (n.cells ++ made.cells) ∙ instances-append n.cells made.cells ∙ ap (λ z. instances n.cells ++ z) (no_instances made.cells made.plain) ∙ append-nil (instances n.cells)

  after_driven : (over : Ports) → IsWellDriven over (before n s place) → IsWellDriven over after
  after_driven over h = record {
    inputs = λ p. subst (λ ports. Distinct (flat.places (flat.role_points Input p ports))) (sym same_ports) (h.inputs p);
    rows = λ p. once_distinct place_same place_same-same (places_of (rows_of over p after)) (λ q. once over p q (h.rows p));
    apart = λ p x i at line j role of.
        let old : In line (ports_of n.wires) = subst (In line) same_ports j in
        ⊎_elim
        (λ l. let k = In-mapped (λ (row : Driven). row.place) x.place (rows_of over p (before n s place)) l in
        h.apart p k.0 k.1 (ap (λ (q : Place). q.path) (sym k.2) ∙ at) line old role (subst (λ (q : Place). IsOf line.name q.spot) k.2 of))
        (λ f. let is : IsSpotOf p (names_of made.wires) x.place = fresh_spot over p x.place f in
        names_apart line.name (port_name n.wires line old) (subst (λ z. In z (names_of made.wires)) (one_name p x.place is.name line.name is.spot of) is.there))
        (origin over p x.place (In-map (λ (row : Driven). row.place) x (rows_of over p after) i));
    instances = subst (λ frames. Distinct (map (λ (f : Frame). f.name) frames)) (sym same_instances) h.instances;
  }

  -- no bit has two drivers after the step
  pub memory_driven : (over : Ports) → IsWellDriven over (before n s place) → IsWellDriven over (expanded_memory (before n s place) (plan n s place) s)
  memory_driven over h = subst (IsWellDriven over) (sym after_is) (after_driven over h)

  pub memory_ports : ports_of n.wires ≡ ports_of (expanded_memory (before n s place) (plan n s place) s).wires
  memory_ports = sym same_ports ∙ sym (ap (λ (m : Module). ports_of m.wires) after_is)

  pub memory_instances : instances n.cells ≡ instances (expanded_memory (before n s place) (plan n s place) s).cells
  memory_instances = sym same_instances ∙ sym (ap (λ (m : Module). instances m.cells) after_is)
