-- Where no bit has two drivers, none has after a step that builds.
use Rattle.std.proofs.Common.{◌≡◌, ◌<◌, ◌≤◌, ℕ, zero, suc, ◌+◌, List, ◌++◌, ◌⊎◌, length, inl, inr, ⊎_elim, refl, sym, ◌∙◌, ap, subst, arith, length-append}
use Rattle.std.specs.Prelude.{flat_map, map}
use Rattle.std.proofs.lemmas.List.{append-nil}
use Rattle.rtl_bits.specs.declared.bit.Bit.{Bit}
use Rattle.rtl_sig.specs.declared.sig.SigBit.{SigBit}
use Rattle.rtl_sig.specs.declared.sig.WireBit.{WireBit}
use Rattle.rtl_ir.specs.Flat.Cell.{Ports, cells_rows, instances}
use Rattle.rtl_ir.specs.Flat.Driver.{Driven}
use Rattle.rtl_ir.specs.Flat.Link.{link_rows}
use Rattle.rtl_ir.specs.Flat.Memory.{memories_rows}
use Rattle.rtl_ir.specs.Flat.Place.{Frame, IsOf, Path, Place, place_same}
use Rattle.rtl_ir.specs.Flat.Point.{bit_place}
use Rattle.rtl_ir.specs.Flat.Process.{processes_rows}
use Rattle.rtl_ir.specs.Flat.Rows.{rows_of}
use Rattle.rtl_ir.specs.Flat.Start.{start_of}
use Rattle.rtl_ir.specs.Flat.Tree as flat
use Rattle.rtl_ir.specs.Ports.{ports_of}
use Rattle.rtl_ir.specs.Types as types
use Rattle.rtl_ir.specs.declared.cell.Cell.{Cell}
use Rattle.rtl_ir.specs.declared.module.Link.{Link}
use Rattle.rtl_ir.specs.declared.module.Module.{Module}
use Rattle.rtl_ir.specs.declared.process.Process.{Process}
use Rattle.rtl_ir.specs.declared.wire.Role.TheVariants.{Input}
use Rattle.rtl_ir.specs.declared.wire.Wire.{Wire}
use Rattle.net_model.proofs.Grown.{ports_more}
use Rattle.net_model.proofs.GrowingMore.{rows_more}
use Rattle.net_model.proofs.Members.{Distinct-append, In-cases, In-map, In-mapped, map-append}
use Rattle.net_model.proofs.Places.{place_same-same}
use Rattle.net_model.proofs.Swapping.{instances-append, rows-append}
use Rattle.net_model.specs.Lists.{Distinct, In}
use Rattle.net_model.specs.Refine.{IsWellDriven, places_of}
use Rattle.net_model.specs.Within.{IsWithin, with_wires}
use Rattle.map_laws.specs.Expansion.{bits_from}
use Rattle.map_laws.proofs.FreshWires.{IsSpotOf, from_spots, in_wire_spots, names_of, one_name}
use Rattle.pass_laws.specs.Bits.{cells_bits, links_bits}
use Rattle.pass_laws.proofs.Placing.{bits_places, cells_places, links_places, places_more}
use Rattle.pass_laws.proofs.Rewriting.{links-append}
use Rattle.build_laws.specs.Rebuilds.{Rebuilds, driven_bits, rebuilt}
use Rattle.build_laws.proofs.CountingBits.{among_distinct, among_in, fresh_above, fresh_distinct, fresh_in}
use Rattle.build_laws.proofs.CountingItems.{distinct_once, in_often, often, often_in, often_more, once_distinct}
use Rattle.build_laws.proofs.RebuildBits.{distinct_before, distinct_map, driven_below, not_both, one_place, port_name}
use Rattle.build_laws.proofs.RebuildPlaces.{cells_alike, memories_alike, processes_places, still_reading}
use Rattle.build_laws.proofs.RebuildSpots.{IsKept, rows_kept}

-- the instances are the same
pub instances_stay : (lines : types.Ports) (m : Module) (fresh : List Wire) (new : List Cell) (more : List Link) (changed : List Process) → Rebuilds lines m fresh new more changed → instances m.cells ≡ instances (m.cells ++ new)
instances_stay lines m fresh new more changed r =
    sym (append-nil (instances m.cells)) ∙ ap (λ z. instances m.cells ++ z) (sym r.plain) ∙ sym (instances-append m.cells new)

module _ (lines : types.Ports) (m : Module) (fresh : List Wire) (new : List Cell) (more : List Link) (changed : List Process) (within : IsWithin m) (r : Rebuilds lines m fresh new more changed) where
  abbrev wires : List Wire
  wires = m.wires ++ fresh

  abbrev after : Module
  after = rebuilt fresh new more changed m

  longer : length m.wires ≤ length (m.wires ++ fresh)
  longer = omega (arith, length-append m.wires fresh)

  same_ports : ports_of (m.wires ++ fresh) ≡ ports_of m.wires
  same_ports = ports_more m.wires fresh r.inner

  names_apart : (name : List ℕ) → In name (names_of m.wires) → In name (names_of fresh) → ⊥
  names_apart =
      not_both (names_of m.wires) (names_of fresh) (subst Distinct (map-append (λ (w : Wire). w.name) m.wires fresh) r.named)

  -- the bits that are driven anew: of fresh wires, or such that processes drove
  abbrev bits : List WireBit
  bits = cells_bits lines new ++ (links_bits more ++ flat_map driven_bits changed)

  abbrev fresh_bits : List WireBit
  fresh_bits = bits_from (length m.wires) fresh

  abbrev old_bits : List WireBit
  old_bits = flat_map driven_bits m.processes

  old_low : (b : WireBit) → In b (flat_map driven_bits m.processes) → b.wire < length m.wires
  old_low = driven_below (length m.wires) m.processes within.processes

  low : (b : WireBit) → In b fresh_bits ⊎ In b old_bits → b.wire < length (m.wires ++ fresh)
  low b (inl i) = fresh_in (length (m.wires ++ fresh)) (length m.wires) fresh (omega (arith, length-append m.wires fresh)) b i
  low b (inr i) = omega (arith, longer, old_low b i)

  bit_cases : (b : WireBit) → In b bits → In b fresh_bits ⊎ In b old_bits
  bit_cases b i = In-cases b fresh_bits old_bits (among_in bits (fresh_bits ++ old_bits) r.driven b i)

  module _ (over : Ports) (p : Path) where
    abbrev place : WireBit → Place
    place = bit_place p (m.wires ++ fresh)

    abbrev of_cells : List Place
    of_cells = places_of (cells_rows (start_of (m.wires ++ fresh) m.processes) over p (m.wires ++ fresh) m.cells)

    abbrev of_links : List Place
    of_links = places_of (link_rows p (m.wires ++ fresh) m.links)

    abbrev of_processes : List Place
    of_processes = bits_places p (m.wires ++ fresh) (flat_map driven_bits m.processes)

    abbrev of_memories : List Place
    of_memories = places_of (memories_rows p (m.wires ++ fresh) m.cells m.processes m.memories)

    abbrev of_new : List Place
    of_new = bits_places p (m.wires ++ fresh) (cells_bits lines new)

    abbrev of_more : List Place
    of_more = bits_places p (m.wires ++ fresh) (links_bits more)

    abbrev of_changed : List Place
    of_changed = bits_places p (m.wires ++ fresh) (flat_map driven_bits changed)

    abbrev of_bits : List Place
    of_bits = bits_places p (m.wires ++ fresh) bits

    -- with fresh wires the rows are the same
    old_places : places_of (rows_of over p m) ≡ of_cells ++ (of_links ++ (of_processes ++ of_memories))
    old_places =
        let w : List Wire = m.wires ++ fresh in
        let start : SigBit → Bit = start_of (m.wires ++ fresh) m.processes in
        let c : List Driven = cells_rows start over p w m.cells in
        let l : List Driven = link_rows p w m.links in
        let q : List Driven = processes_rows start p w (with_wires fresh m) m.processes in
        let s : List Driven = memories_rows p w m.cells m.processes m.memories in
        ap places_of (sym (rows_more over p m fresh within))
        ∙ places_more c (l ++ (q ++ s))
        ∙ ap (λ z. of_cells ++ z) (places_more l (q ++ s) ∙ ap (λ z. of_links ++ z) (places_more q s ∙ ap (λ z. z ++ of_memories) (processes_places start p w (with_wires fresh m) m.processes)))

    new_places : places_of (rows_of over p after) ≡ (of_cells ++ of_new) ++ ((of_links ++ of_more) ++ (of_changed ++ of_memories))
    new_places =
        let w : List Wire = m.wires ++ fresh in
        let start : SigBit → Bit = start_of (m.wires ++ fresh) changed in
        let c : List Driven = cells_rows start over p w (m.cells ++ new) in
        let l : List Driven = link_rows p w (m.links ++ more) in
        let q : List Driven = processes_rows start p w after changed in
        let s : List Driven = memories_rows p w (m.cells ++ new) changed m.memories in
        places_more c (l ++ (q ++ s))
        ∙ (λ i. cells i ++ (places_more l (q ++ s) ∙ (λ j. links j ++ (places_more q s ∙ (λ k. processes_places start p w after changed k ++ memories k)) j)) i)
      where
        cells : places_of (cells_rows (start_of (m.wires ++ fresh) changed) over p (m.wires ++ fresh) (m.cells ++ new)) ≡ of_cells ++ of_new
        cells =
            let w : List Wire = m.wires ++ fresh in
            let start : SigBit → Bit = start_of (m.wires ++ fresh) changed in
            ap places_of (rows-append start over p w m.cells new)
            ∙ places_more (cells_rows start over p w m.cells) (cells_rows start over p w new)
            ∙ (λ i. cells_alike start (start_of (m.wires ++ fresh) m.processes) over p w m.cells i ++ cells_places p w lines over start new r.cells r.plain i)

        links : places_of (link_rows p (m.wires ++ fresh) (m.links ++ more)) ≡ of_links ++ of_more
        links =
            let w : List Wire = m.wires ++ fresh in
            ap places_of (links-append p w m.links more)
            ∙ places_more (link_rows p w m.links) (link_rows p w more)
            ∙ ap (λ z. of_links ++ z) (links_places p w more r.links)

        memories : places_of (memories_rows p (m.wires ++ fresh) (m.cells ++ new) changed m.memories) ≡ of_memories
        memories =
            memories_alike p (m.wires ++ fresh) (m.cells ++ new) m.cells changed m.processes (λ name. still_reading lines name m.cells new r.cells r.plain) m.memories

    -- the new bits stand once
    bits_once : Distinct (places_of (rows_of over p m)) → Distinct of_bits
    bits_once h =
        distinct_map (bit_place p (m.wires ++ fresh)) bits
        (λ b c i j. one_place p (m.wires ++ fresh) r.named b c (low b (bit_cases b i)) (low c (bit_cases c j)))
        (among_distinct bits (fresh_bits ++ old_bits) r.driven
        (Distinct-append fresh_bits old_bits (fresh_distinct (length m.wires) fresh) (distinct_before (bit_place p (m.wires ++ fresh)) old_bits processes_once)
        (λ b i j. absurd (omega (arith, fresh_above (length m.wires) fresh b i, old_low b j)))))
      where
        processes_once : Distinct of_processes
        processes_once =
            let all : Distinct (of_cells ++ (of_links ++ (of_processes ++ of_memories))) = subst Distinct old_places h in
            once_distinct place_same place_same-same of_processes (λ q. omega (arith, distinct_once place_same place_same-same (of_cells ++ (of_links ++ (of_processes ++ of_memories))) all q, often_more place_same q of_cells (of_links ++ (of_processes ++ of_memories)), often_more place_same q of_links (of_processes ++ of_memories), often_more place_same q of_processes of_memories))

    -- a bit of a fresh wire is of no wire that the module had
    fresh_name : (q : Place) → In q (bits_places p (m.wires ++ fresh) fresh_bits) → IsSpotOf p (names_of fresh) q
    fresh_name q i = in_wire_spots p fresh q (subst (In q) (from_spots p m.wires fresh) i)

    not_old : (q : Place) → In q (bits_places p (m.wires ++ fresh) fresh_bits) → In q (places_of (rows_of over p m)) → ⊥
    not_old q i j =
        let is : IsSpotOf p (names_of fresh) q = fresh_name q i in
        let k = In-mapped (λ (x : Driven). x.place) q (rows_of over p m) j in
        let kept : IsKept p m.wires q = subst (IsKept p m.wires) (sym k.2) (rows_kept over p m within old_low k.0 k.1) in
        names_apart is.name (kept is.path is.name is.spot) is.there

    -- where a new bit stands: on a fresh wire, or where a process drove it
    place_cases : (q : Place) → In q of_bits → In q (bits_places p (m.wires ++ fresh) fresh_bits) ⊎ In q of_processes
    place_cases q i =
        let k = In-mapped (bit_place p (m.wires ++ fresh)) q bits i in
        ⊎_elim
        (λ l. inl (subst (λ z. In z (bits_places p (m.wires ++ fresh) fresh_bits)) (sym k.2) (In-map (bit_place p (m.wires ++ fresh)) k.0 fresh_bits l)))
        (λ o. inr (subst (λ z. In z of_processes) (sym k.2) (In-map (bit_place p (m.wires ++ fresh)) k.0 old_bits o)))
        (bit_cases k.0 k.1)

    -- how often a bit stands in these lists
    module _ (q : Place) where
      abbrev times : List Place → ℕ
      times ps = often place_same q ps

      old_times : times (places_of (rows_of over p m)) ≡ times of_cells + (times of_links + (times of_processes + times of_memories))
      old_times =
          ap times old_places
          ∙ often_more place_same q of_cells (of_links ++ (of_processes ++ of_memories))
          ∙ ap (λ z. times of_cells + z) (often_more place_same q of_links (of_processes ++ of_memories) ∙ ap (λ z. times of_links + z) (often_more place_same q of_processes of_memories))

      bits_times : times of_bits ≡ times of_new + (times of_more + times of_changed)
      bits_times =
          ap times (map-append place (cells_bits lines new) (links_bits more ++ flat_map driven_bits changed))
          ∙ often_more place_same q of_new (bits_places p (m.wires ++ fresh) (links_bits more ++ flat_map driven_bits changed))
          ∙ ap (λ z. times of_new + z) (ap times (map-append place (links_bits more) (flat_map driven_bits changed)) ∙ often_more place_same q of_more of_changed)

      new_times : times (places_of (rows_of over p after)) ≡ (times of_cells + (times of_links + times of_memories)) + times of_bits
      new_times =
          let a = often_more place_same q (of_cells ++ of_new) ((of_links ++ of_more) ++ (of_changed ++ of_memories)) in
          let b = often_more place_same q of_cells of_new in
          let c = often_more place_same q (of_links ++ of_more) (of_changed ++ of_memories) in
          let d = often_more place_same q of_links of_more in
          let e = often_more place_same q of_changed of_memories in
          let f = ap times new_places in
          omega (arith, a, b, c, d, e, f, bits_times)

      absent : (ps : List Place) → (In q ps → ⊥) → times ps ≡ 0
      absent ps h = by (times ps) refl
        where
          by : (n : ℕ) → often place_same q ps ≡ n → n ≡ 0
          by zero e = refl
          by (suc n) e = absurd (h (often_in place_same place_same-same q ps (omega (arith, e))))

      once : Distinct (places_of (rows_of over p m)) → times (places_of (rows_of over p after)) ≤ 1
      once h = by (times of_bits) refl
        where
          old_once : often place_same q (places_of (rows_of over p m)) ≤ 1
          old_once = distinct_once place_same place_same-same (places_of (rows_of over p m)) h q

          new_once : often place_same q of_bits ≤ 1
          new_once = distinct_once place_same place_same-same of_bits (bits_once h) q

          -- a new bit is none that anything but a process drove
          others : In q of_bits → often place_same q of_cells + (often place_same q of_links + often place_same q of_memories) ≡ 0
          others i =
              ⊎_elim
              (λ l. omega (arith, old_times, absent (places_of (rows_of over p m)) (not_old q l)))
              (λ o. omega (arith, old_times, old_once, in_often place_same place_same-same q of_processes o))
              (place_cases q i)

          by : (n : ℕ) → often place_same q of_bits ≡ n → often place_same q (places_of (rows_of over p after)) ≤ 1
          by zero e = omega (arith, new_times, old_times, old_once, e)
          by (suc n) e = omega (arith, new_times, new_once, others (often_in place_same place_same-same q of_bits (omega (arith, e))))

      -- where a bit stands after the step: where one stood before, or on a fresh wire
      before : In q (places_of (rows_of over p after)) → In q (places_of (rows_of over p m)) ⊎ In q (bits_places p (m.wires ++ fresh) fresh_bits)
      before i = by (times (places_of (rows_of over p m))) refl
        where
          some : 1 ≤ often place_same q (places_of (rows_of over p after))
          some = in_often place_same place_same-same q (places_of (rows_of over p after)) i

          by : (n : ℕ) → often place_same q (places_of (rows_of over p m)) ≡ n → In q (places_of (rows_of over p m)) ⊎ In q (bits_places p (m.wires ++ fresh) fresh_bits)
          by (suc n) e = inl (often_in place_same place_same-same q (places_of (rows_of over p m)) (omega (arith, e)))
          by zero e =
              ⊎_elim
              (λ l. inr l)
              (λ o. absurd (omega (arith, old_times, e, in_often place_same place_same-same q of_processes o)))
              (place_cases q (often_in place_same place_same-same q of_bits (omega (arith, some, new_times, old_times, e))))

  -- no bit has two drivers after the step
  pub still_driven : (over : Ports) → IsWellDriven over m → IsWellDriven over (rebuilt fresh new more changed m)
  still_driven over h = record {
    inputs = λ p. subst (λ ports. Distinct (flat.places (flat.role_points Input p ports))) (sym same_ports) (h.inputs p);
    rows = λ p. once_distinct place_same place_same-same (places_of (rows_of over p after)) (λ q. once over p q (h.rows p));
    apart = λ p x i at n j role of.
        let old : In n (ports_of m.wires) = subst (In n) same_ports j in
        ⊎_elim
        (λ l. let k = In-mapped (λ (row : Driven). row.place) x.place (rows_of over p m) l in
        h.apart p k.0 k.1 (ap (λ (q : Place). q.path) (sym k.2) ∙ at) n old role (subst (λ (q : Place). IsOf n.name q.spot) k.2 of))
        (λ f. let is : IsSpotOf p (names_of fresh) x.place = fresh_name over p x.place f in
        names_apart n.name (port_name m.wires n old) (subst (λ z. In z (names_of fresh)) (one_name p x.place is.name n.name is.spot of) is.there))
        (before over p x.place (In-map (λ (row : Driven). row.place) x (rows_of over p after) i));
    instances = subst (λ frames. Distinct (map (λ (f : Frame). f.name) frames)) (instances_stay lines m fresh new more changed r) h.instances;
  }
