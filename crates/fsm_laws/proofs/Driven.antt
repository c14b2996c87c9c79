-- Where no bit has two drivers, none has after a machine got its code.
use Rattle.std.proofs.Common.{◌≡◌, ◌≤◌, ℕ, zero, suc, ◌+◌, List, [], ◌∷◌, ◌++◌, length, ◌⊎◌, inl, inr, ⊎_elim, refl, sym, ◌∙◌, ap, subst, arith}
use Rattle.std.specs.Prelude.{flat_map, map}
use Rattle.rtl_bits.specs.declared.bit.Bit.{Bit}
use Rattle.rtl_sig.specs.declared.sig.SigBit.{SigBit}
use Rattle.cell_types.specs.declared.kind.CellKind.{CellKind}
use Rattle.rtl_ir.specs.Flat.Cell.{Ports, cell_kind, cell_rows, cells_rows}
use Rattle.rtl_ir.specs.Flat.Driver.{Driven}
use Rattle.rtl_ir.specs.Flat.Link.{link_rows}
use Rattle.rtl_ir.specs.Flat.Memory.{memories_rows}
use Rattle.rtl_ir.specs.Flat.Place.{Frame, IsOf, Path, Place, place_same}
use Rattle.rtl_ir.specs.Flat.Process.{processes_rows}
use Rattle.rtl_ir.specs.Flat.Rows.{rows_of}
use Rattle.rtl_ir.specs.Flat.Start.{start_of}
use Rattle.rtl_ir.specs.Flat.Tree as flat
use Rattle.rtl_ir.specs.Ports.{ports_of}
use Rattle.rtl_ir.specs.Types as types
use Rattle.rtl_ir.specs.declared.cell.Cell.{Cell}
use Rattle.rtl_ir.specs.declared.machine.Machine.{Machine}
use Rattle.rtl_ir.specs.declared.module.Link.{Link}
use Rattle.rtl_ir.specs.declared.module.Module.{Module}
use Rattle.rtl_ir.specs.declared.wire.Role.TheVariants.{Input}
use Rattle.rtl_ir.specs.declared.wire.Wire.{Wire}
use Rattle.net_model.proofs.Grown.{ports_more}
use Rattle.net_model.proofs.GrowingMore.{rows_more}
use Rattle.net_model.proofs.Members.{In-map, In-mapped}
use Rattle.net_model.proofs.Places.{place_same-same}
use Rattle.net_model.specs.Fsm.Find.{whole_wire}
use Rattle.net_model.specs.Lists.{Distinct, In}
use Rattle.net_model.specs.Refine.{IsWellDriven, places_of}
use Rattle.map_laws.proofs.FreshWires.{IsSpotOf, from_spots, in_wire_spots, names_of, one_name, wire_spots, wire_spots_distinct}
use Rattle.pass_laws.proofs.Faultless.{IsPlain, plain}
use Rattle.pass_laws.proofs.Placing.{bits_places, cell_places, links_places, places_more}
use Rattle.pass_laws.proofs.Rewriting.{links-append}
use Rattle.pass_laws.specs.Bits.{cells_bits}
use Rattle.pass_laws.specs.Ready.{IsReady}
use Rattle.build_laws.proofs.CountingBits.{AreBelow}
use Rattle.build_laws.proofs.CountingItems.{distinct_once, in_often, often, often_in, often_more, once_distinct}
use Rattle.build_laws.proofs.RebuildBits.{port_name}
use Rattle.build_laws.proofs.RebuildSpots.{IsKept, rows_kept}
use Rattle.build_laws.specs.Rebuilds.{driven_bits}
use Rattle.build_laws.proofs.CountingPlaces.{times, times_bits}
use Rattle.fsm_laws.specs.Machines.{IsFoundMachine}
use Rattle.fsm_laws.specs.Recoded.{all_links_made, fresh_wires, machine_coding, recoded_with}
use Rattle.fsm_laws.proofs.Fits.{Fits}
use Rattle.fsm_laws.proofs.Formed.{fit_faultless, fresh_names, inner, more_even, names_apart, same_instances, same_memories}
use Rattle.fsm_laws.proofs.Measures.{IsMeasure}
use Rattle.fsm_laws.proofs.Totals.{total, weights}
use Rattle.fsm_laws.specs.Short.{IsShort}

module _ (ports : types.Ports) (m : Module) (wire : ℕ) (machine : Machine) (ready : IsReady ports m) (found : IsFoundMachine ports m wire machine) (few : IsShort m machine) where
  abbrev state : List SigBit
  state = whole_wire wire found.wire

  abbrev next : Module
  next = recoded_with m machine state

  abbrev fresh : List Wire
  fresh = fresh_wires m machine

  abbrev wires : List Wire
  wires = m.wires ++ fresh

  abbrev more : List Link
  more = all_links_made m machine (machine_coding m machine state) 0 m.cells

  fine : IsPlain m
  fine = plain ports m ready.faultless

  no_process_bits : AreBelow (length m.wires) (flat_map driven_bits m.processes)
  no_process_bits = subst (λ ps. AreBelow (length m.wires) (flat_map driven_bits ps)) (sym fine.processes) (λ b l. absurd l)

  module _ (over : Ports) (p : Path) where
    abbrev start : SigBit → Bit
    start = start_of wires m.processes

    abbrev of_cells : List Cell → List Driven
    of_cells cells = cells_rows start over p wires cells

    abbrev of_links : List Driven
    of_links = link_rows p wires m.links

    abbrev of_memories : List Driven
    of_memories = memories_rows p wires m.cells m.processes m.memories

    -- a bit of a fresh wire is of no wire that the module had
    fresh_spot : (q : Place) → In q (wire_spots p fresh) → IsSpotOf p (names_of fresh) q
    fresh_spot q i = in_wire_spots p fresh q i

    not_old : (q : Place) → In q (wire_spots p fresh) → In q (places_of (rows_of over p m)) → ⊥
    not_old q i j =
        let is = fresh_spot q i in
        let k = In-mapped (λ (x : Driven). x.place) q (rows_of over p m) j in
        let kept : IsKept p m.wires q = subst (IsKept p m.wires) (sym k.2) (rows_kept over p m ready.within no_process_bits k.0 k.1) in
        names_apart m machine few is.name (kept is.path is.name is.spot) is.there

    module _ (q : Place) where
      both : (xs ys : List Driven) → times q (places_of (xs ++ ys)) ≡ times q (places_of xs) + times q (places_of ys)
      both xs ys = ap (times q) (places_more xs ys) ∙ often_more place_same q (places_of xs) (places_of ys)

      abbrev weight : Cell → ℕ
      weight c = times q (places_of (cell_rows start over p wires c (cell_kind c)))

      -- what cells drive, cell by cell
      cells_times : (cells : List Cell) → weights weight cells ≡ times q (places_of (of_cells cells))
      cells_times [] = refl
      cells_times (c ∷ cells) =
          let later = cells_times cells in
          omega (arith, later, both (cell_rows start over p wires c (cell_kind c)) (of_cells cells))

      own : (kind : CellKind) (c : Cell) → Fits kind c → weight c ≡ times q (bits_places p wires (cells_bits ports (c ∷ [])))
      own kind c fits = ap (times q) (cell_places p wires ports over start c (fit_faultless ports c (kind, fits)) kind fits.own)

      low : times q (places_of (of_cells next.cells)) + times q (places_of (link_rows p wires more)) ≤ times q (places_of (of_cells m.cells)) + times q (wire_spots p fresh)
      low =
          let measure : IsMeasure (λ bits. times q (bits_places p wires bits)) = record { none = refl; more = times_bits p wires q } in
          let all = total ports m wire machine ready found (λ bits. times q (bits_places p wires bits)) measure weight own in
          let links = ap (times q) (links_places p wires more (more_even ports m wire machine ready found)) in
          let spots = ap (times q) (from_spots p m.wires fresh) in
          omega (arith, all, links, spots, cells_times next.cells, cells_times m.cells)

      old_times : times q (places_of (rows_of over p m)) ≡ times q (places_of (of_cells m.cells)) + (times q (places_of of_links) + times q (places_of of_memories))
      old_times =
          let none : processes_rows start p wires (record m { wires = wires }) m.processes ≡ [] = ap (processes_rows start p wires (record m { wires = wires })) fine.processes in
          ap (λ z. times q (places_of z)) (sym (rows_more over p m fresh ready.within))
          ∙ ap (λ z. times q (places_of (of_cells m.cells ++ (of_links ++ (z ++ of_memories))))) none
          ∙ both (of_cells m.cells) (of_links ++ of_memories)
          ∙ ap (λ z. times q (places_of (of_cells m.cells)) + z) (both of_links of_memories)

      new_times : times q (places_of (rows_of over p next)) ≡ times q (places_of (of_cells next.cells)) + ((times q (places_of of_links) + times q (places_of (link_rows p wires more))) + times q (places_of of_memories))
      new_times =
          let none : processes_rows start p wires next m.processes ≡ [] = ap (processes_rows start p wires next) fine.processes in
          let links = links-append p wires m.links more in
          let memories = same_memories ports m wire machine ready found p wires m.processes m.memories in
          ap (λ z. times q (places_of (of_cells next.cells ++ (link_rows p wires (m.links ++ more) ++ (z ++ memories_rows p wires next.cells m.processes m.memories))))) none
          ∙ (λ i. times q (places_of (of_cells next.cells ++ (links i ++ memories i))))
          ∙ both (of_cells next.cells) ((of_links ++ link_rows p wires more) ++ of_memories)
          ∙ ap (λ z. times q (places_of (of_cells next.cells)) + z) (both (of_links ++ link_rows p wires more) of_memories ∙ ap (λ z. z + times q (places_of of_memories)) (both of_links (link_rows p wires more)))

      -- no place is driven more often than before, or by a fresh wire
      all_low : times q (places_of (rows_of over p next)) ≤ times q (places_of (rows_of over p m)) + times q (wire_spots p fresh)
      all_low = omega (arith, new_times, old_times, low)

      once : Distinct (places_of (rows_of over p m)) → times q (places_of (rows_of over p next)) ≤ 1
      once h = by (times q (wire_spots p fresh)) refl
        where
          old_once : often place_same q (places_of (rows_of over p m)) ≤ 1
          old_once = distinct_once place_same place_same-same (places_of (rows_of over p m)) h q

          fresh_once : often place_same q (wire_spots p fresh) ≤ 1
          fresh_once = distinct_once place_same place_same-same (wire_spots p fresh) (wire_spots_distinct p fresh (fresh_names m machine few)) q

          absent : (k : ℕ) → often place_same q (places_of (rows_of over p m)) ≡ k → In q (wire_spots p fresh) → k ≡ 0
          absent zero e i = refl
          absent (suc k) e i = absurd (not_old q i (often_in place_same place_same-same q (places_of (rows_of over p m)) (omega (arith, e))))

          by : (k : ℕ) → often place_same q (wire_spots p fresh) ≡ k → often place_same q (places_of (rows_of over p next)) ≤ 1
          by zero e = omega (arith, e, all_low, old_once)
          by (suc k) e =
              let none = absent (often place_same q (places_of (rows_of over p m))) refl (often_in place_same place_same-same q (wire_spots p fresh) (omega (arith, e))) in
              omega (arith, none, all_low, fresh_once)

      -- where a bit stands after the step: where one stood before, or on a fresh wire
      origin : In q (places_of (rows_of over p next)) → In q (places_of (rows_of over p m)) ⊎ In q (wire_spots p fresh)
      origin i = by (times q (places_of (rows_of over p m))) refl
        where
          some : 1 ≤ often place_same q (places_of (rows_of over p next))
          some = in_often place_same place_same-same q (places_of (rows_of over p next)) i

          by : (k : ℕ) → often place_same q (places_of (rows_of over p m)) ≡ k → In q (places_of (rows_of over p m)) ⊎ In q (wire_spots p fresh)
          by (suc k) e = inl (often_in place_same place_same-same q (places_of (rows_of over p m)) (omega (arith, e)))
          by zero e = inr (often_in place_same place_same-same q (wire_spots p fresh) (omega (arith, e, some, all_low)))

  pub same_ports : ports_of (m.wires ++ fresh_wires m machine) ≡ ports_of m.wires
  same_ports = ports_more m.wires fresh (inner m machine)

  pub next_driven : (over : Ports) → IsWellDriven over m → IsWellDriven over (recoded_with m machine (whole_wire wire found.wire))
  next_driven over h = record {
    inputs = λ p. subst (λ lines. Distinct (flat.places (flat.role_points Input p lines))) (sym same_ports) (h.inputs p);
    rows = λ p. once_distinct place_same place_same-same (places_of (rows_of over p next)) (λ q. once over p q (h.rows p));
    apart = λ p x i at line j role of.
        let old : In line (ports_of m.wires) = subst (In line) same_ports j in
        ⊎_elim
        (λ l. let k = In-mapped (λ (row : Driven). row.place) x.place (rows_of over p m) l in
        h.apart p k.0 k.1 (ap (λ (q : Place). q.path) (sym k.2) ∙ at) line old role (subst (λ (q : Place). IsOf line.name q.spot) k.2 of))
        (λ f. let is : IsSpotOf p (names_of fresh) x.place = fresh_spot over p x.place f in
        names_apart m machine few line.name (port_name m.wires line old) (subst (λ z. In z (names_of fresh)) (one_name p x.place is.name line.name is.spot of) is.there))
        (origin over p x.place (In-map (λ (row : Driven). row.place) x (rows_of over p next) i));
    instances = subst (λ frames. Distinct (map (λ (f : Frame). f.name) frames)) (sym (same_instances ports m wire machine ready found)) h.instances;
  }
