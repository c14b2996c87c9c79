-- Where no bit has two drivers, none has with gates in the places of cells.
use Rattle.std.proofs.Common.{◌≡◌, ◌≤◌, ℕ, List, [], ◌∷◌, ◌++◌, length, Option, Some, None, false, inl, inr, ⊎_elim, refl, sym, ◌∙◌, ap, subst, append_assoc, arith}
use Rattle.std.specs.Prelude.{flat_map, map, IsPermutation}
use Rattle.std.proofs.lemmas.List.{append-nil}
use Rattle.std.proofs.lemmas.List.Sorted.{IsPermutation-append_comm, IsPermutation-append_left, IsPermutation-append_right, IsPermutation-sym, IsPermutation-trans}
use Rattle.cell_types.specs.declared.kind.CellKind.{CellKind}
use Rattle.rtl_bits.specs.declared.bit.Bit.{Bit}
use Rattle.rtl_sig.specs.declared.sig.SigBit.{SigBit}
use Rattle.rtl_ir.specs.Build.{Building, building_of, first_number, made_number}
use Rattle.rtl_ir.specs.Faults.Cells.{is_memory_kind}
use Rattle.rtl_ir.specs.Flat.Cell.{Ports, cell_kind, cell_rows, cells_rows}
use Rattle.rtl_ir.specs.Flat.Driver.{Driven}
use Rattle.rtl_ir.specs.Flat.Link.{joins, link_rows}
use Rattle.rtl_ir.specs.Flat.Memory.{memories_rows}
use Rattle.rtl_ir.specs.Flat.Place.{Frame, IsOf, Path, Place, place_same}
use Rattle.rtl_ir.specs.Flat.Point.{bit_place, points}
use Rattle.rtl_ir.specs.Flat.Rows.{rows_of}
use Rattle.rtl_ir.specs.Flat.Start.{start_of}
use Rattle.rtl_ir.specs.Flat.Tree.{places, role_points}
use Rattle.rtl_ir.specs.Ports.{ports_of}
use Rattle.rtl_ir.specs.declared.cell.Cell.{Cell}
use Rattle.rtl_ir.specs.declared.module.Link.{Link}
use Rattle.rtl_ir.specs.declared.module.Module.{Module}
use Rattle.rtl_ir.specs.declared.wire.Role.TheVariants.{Input}
use Rattle.rtl_ir.specs.declared.wire.Wire.{Wire}
use Rattle.net_model.proofs.Members.{Distinct-append, In-cases, In-map, In-mapped, map-append}
use Rattle.net_model.proofs.Places.{place_same-same}
use Rattle.net_model.specs.Lists.{Distinct, In}
use Rattle.net_model.specs.Refine.{IsWellDriven, places_of}
use Rattle.net_model.specs.Within.{Each}
use Rattle.map_laws.specs.Expansion.{AreRising, IsWhole, IsWholeCell, IsWholeLink, bits_from, cell_bits, link_bits, links_added, wires_added}
use Rattle.map_laws.proofs.Expanding.{rising_more}
use Rattle.map_laws.proofs.FreshWires.{IsFresh, fresh_number, from_spots, in_wire_spots, names_of, old_number, one_name, rising_distinct, rising_fresh, wire_spots, wire_spots_distinct}
use Rattle.map_laws.proofs.Reordering.{Distinct-permutation, In-permutation, to_permutation}
use Rattle.pass_laws.proofs.Placing.{kind_places, links_places}
use Rattle.pass_laws.proofs.Rewriting.{rows_are}
use Rattle.pass_laws.specs.Replaces.{IsEven}
use Rattle.tech_map.specs.Techmap.{beside, stand_ins, taken_kind, techmap_of, with_all_gates, with_gates}
use Rattle.tech_map.proofs.Drives.{all_drive}
use Rattle.tech_map.proofs.Growing.{AreWhole, all_added, one_added, whole_next}
use Rattle.tech_map.proofs.ByKind.{bits_are, mapped, taken_is}
use Rattle.build_laws.proofs.RebuildSpots.{cells_kept, links_kept, memories_kept}
use Rattle.tech_map.proofs.Standing.{IsTakable, cells_after, fresh, grown, lines_more, new_rows, of_memories, old_rows, swapped, swapped_children, swapped_is, swapped_ports}
use Rattle.build_laws.proofs.RebuildBits.{port_name}

placed_more : (xs ys : List Driven) → places_of (xs ++ ys) ≡ places_of xs ++ places_of ys
placed_more xs ys = map-append (λ (row : Driven). row.place) xs ys

-- the names of fresh wires are those of rising numbers
one_rising : (c : Cell) (b : Building) → IsWholeCell (length b.body.wires) c → (k : Option CellKind) → taken_kind c ≡ k → AreRising b.next (with_gates k c b).next (names_of (one_added wires_added k c b))
one_rising c b whole None e = omega arith
one_rising c b whole (Some kind) e =
    let is = taken_is (cell_kind c) kind e in
    (mapped kind is.taken c b (whole kind is.own)).expansion.wire_names

pub all_rising : (cs : List Cell) (b : Building) → AreWhole cs b → AreRising b.next (with_all_gates cs b).next (names_of (all_added wires_added cs b))
all_rising [] b whole = omega arith
all_rising (c ∷ cs) b whole =
    let next : Building = with_gates (taken_kind c) c b in
    subst (AreRising b.next (with_all_gates cs next).next) (sym (map-append (λ (w : Wire). w.name) (one_added wires_added (taken_kind c) c b) (all_added wires_added cs next)))
    (rising_more b.next next.next (with_all_gates cs next).next _ _ (one_rising c b (whole c (inl refl)) (taken_kind c) refl) (all_rising cs next (whole_next c cs b whole)))

module _ (start : SigBit → Bit) (ports : Ports) (p : Path) (wires : List Wire) where
  -- what a cell and a connection drive
  abbrev cell_places : Cell → List Place
  cell_places c = places_of (cell_rows start ports p wires c (cell_kind c))

  abbrev line_places : Link → List Place
  line_places l = places_of (link_rows p wires (l ∷ []))

  pub cells_are : (cs : List Cell) → flat_map cell_places cs ≡ places_of (cells_rows start ports p wires cs)
  cells_are [] = refl
  cells_are (c ∷ cs) = ap (λ z. cell_places c ++ z) (cells_are cs) ∙ sym (placed_more (cell_rows start ports p wires c (cell_kind c)) (cells_rows start ports p wires cs))

  pub lines_are : (ls : List Link) → flat_map line_places ls ≡ places_of (link_rows p wires ls)
  lines_are [] = refl
  lines_are (l ∷ ls) =
      let here : List Driven = joins (points p wires l.left) (points p wires l.right) in
      (λ i. places_of (append-nil here i) ++ lines_are ls i) ∙ sym (placed_more here (link_rows p wires ls))

  own : (n : ℕ) (kind : CellKind) (c : Cell) → is_memory_kind kind ≡ false → IsWhole n kind c → cell_places c ≡ map (bit_place p wires) (cell_bits c)
  own n kind c plain whole =
      ap (λ k. places_of (cell_rows start ports p wires c k)) whole.own
      ∙ kind_places p wires start c kind plain whole.shape
      ∙ ap (map (bit_place p wires)) (bits_are n kind c plain whole)

  line : (n : ℕ) (l : Link) → IsWholeLink n l → line_places l ≡ map (bit_place p wires) (link_bits l)
  line n l whole =
      links_places p wires (l ∷ []) (one_even l (record { width = whole.even; wires = whole.left })) ∙ ap (map (bit_place p wires)) (append-nil (link_bits l))
    where
      one_even : (l : Link) → IsEven l → Each IsEven (l ∷ [])
      one_even l even k (inl e) = subst IsEven (sym e) even
      one_even l even k (inr i) = absurd i

  pub all_places : (cs : List Cell) (b : Building) → AreWhole cs b → IsPermutation (flat_map cell_places (stand_ins cs b) ++ flat_map line_places (all_added links_added cs b)) (map (bit_place p wires) (bits_from (length b.body.wires) (all_added wires_added cs b)) ++ flat_map cell_places cs)
  all_places = all_drive (bit_place p wires) cell_places line_places own line

module _ (m : Module) (fine : IsTakable m) (few : (beside m).next ≤ 1000000000) where
  rising : AreRising (first_number m) (beside m).next (names_of (fresh m fine))
  rising = all_rising m.cells (building_of m) fine.whole

  -- no fresh wire has the name of a wire of the module
  pub names_apart : (name : List ℕ) → In name (names_of (fresh m fine)) → In name (names_of m.wires) → ⊥
  names_apart name i j =
      let is : IsFresh (first_number m) (beside m).next name = rising_fresh _ _ (names_of (fresh m fine)) rising name i in
      let number : made_number name ≡ is.number = fresh_number (first_number m) (beside m).next name (omega arith) few is in
      omega (arith, number, is.above, old_number m name j)

  pub fresh_distinct : Distinct (names_of (fresh m fine))
  fresh_distinct = rising_distinct (beside m).next few (first_number m) (omega arith) (names_of (fresh m fine)) rising

  module _ (ports : Ports) (p : Path) where
    abbrev fresh_places : List Place
    fresh_places = wire_spots p (fresh m fine)

    -- what the rows drive after the pass
    driven : IsPermutation (places_of (rows_of ports p (swapped m fine))) (fresh_places ++ places_of (rows_of ports p m))
    driven =
        let wires : List Wire = (grown m fine).wires in
        let start : SigBit → Bit = start_of wires m.processes in
        let cells : List Place = places_of (cells_rows start ports p wires (cells_after m fine)) in
        let before : List Place = places_of (cells_rows start ports p wires m.cells) in
        let links : List Place = places_of (link_rows p wires m.links) in
        let more : List Place = places_of (link_rows p wires (lines_more m fine)) in
        let words : List Place = places_of (of_memories m fine ports p) in
        let new : places_of (rows_of ports p (swapped m fine)) ≡ cells ++ ((links ++ more) ++ words) =
        ap places_of (new_rows m fine ports p) ∙ placed_more _ _ ∙ ap (λ z. cells ++ z) (placed_more _ _ ∙ ap (λ z. z ++ words) (placed_more _ _))
        in
        let old : places_of (rows_of ports p m) ≡ before ++ (links ++ words) =
        ap places_of (old_rows m fine ports p) ∙ placed_more _ _ ∙ ap (λ z. before ++ z) (placed_more _ _)
        in
        let given : IsPermutation (cells ++ more) (fresh_places ++ before) =
        subst (λ z. IsPermutation z (fresh_places ++ before)) (λ i. cells_are start ports p wires (cells_after m fine) i ++ lines_are start ports p wires (lines_more m fine) i)
        (subst (IsPermutation _) (λ i. from_spots p m.wires (fresh m fine) i ++ cells_are start ports p wires m.cells i) (all_places start ports p wires m.cells (building_of m) fine.whole))
        in
        IsPermutation-trans _ _ _ (to_permutation _ _ new)
        (IsPermutation-trans _ _ _ (IsPermutation-append_right cells _ _ (IsPermutation-append_left words _ _ (IsPermutation-append_comm links more)))
        (IsPermutation-trans _ _ _ (to_permutation _ _ (ap (λ z. cells ++ z) (append_assoc more links words) ∙ sym (append_assoc cells more (links ++ words))))
        (IsPermutation-trans _ _ _ (IsPermutation-append_left (links ++ words) _ _ given)
        (to_permutation _ _ (append_assoc fresh_places before (links ++ words) ∙ ap (λ z. fresh_places ++ z) (sym old))))))

    -- a row from before at the module's own path that drives a bit of a wire drives one of the module's
    old_kept : (x : Driven) → In x (rows_of ports p m) → x.place.path ≡ p → (name : List ℕ) → IsOf name x.place.spot → In name (names_of m.wires)
    old_kept x i =
        let start : SigBit → Bit = start_of m.wires m.processes in
        ⊎_elim
        (λ l. cells_kept p m.wires start ports m.cells fine.within.cells x l)
        (λ r. ⊎_elim
        (λ l. links_kept p m.wires m.links fine.within.links x l)
        (λ k. memories_kept p m.wires m.cells m.processes fine.within.cells m.memories x k)
        (In-cases x (link_rows p m.wires m.links) (memories_rows p m.wires m.cells m.processes m.memories) r))
        (In-cases x (cells_rows start ports p m.wires m.cells) (link_rows p m.wires m.links ++ memories_rows p m.wires m.cells m.processes m.memories) (subst (In x) (rows_are ports p m fine.processes) i))

    apart : (q : Place) → In q fresh_places → In q (places_of (rows_of ports p m)) → ⊥
    apart q i j =
        let a = in_wire_spots p (fresh m fine) q i in
        let k = In-mapped (λ (row : Driven). row.place) q (rows_of ports p m) j in
        names_apart a.name a.there
        (old_kept k.0 k.1 (ap (λ (z : Place). z.path) (sym k.2) ∙ a.path) a.name (subst (λ (z : Place). IsOf a.name z.spot) k.2 a.spot))

    rows_distinct : Distinct (places_of (rows_of ports p m)) → Distinct (places_of (rows_of ports p (swapped m fine)))
    rows_distinct h =
        Distinct-permutation place_same place_same-same _ _ (IsPermutation-sym _ _ driven)
        (Distinct-append fresh_places (places_of (rows_of ports p m)) (wire_spots_distinct p (fresh m fine) fresh_distinct) h apart)

    -- a row after the pass drives a bit of a fresh wire, or what a row from before drives
    from : (x : Driven) → In x (rows_of ports p (swapped m fine)) → In x.place (fresh_places ++ places_of (rows_of ports p m))
    from x i = In-permutation place_same place_same-same x.place _ _ driven (In-map (λ (row : Driven). row.place) x (rows_of ports p (swapped m fine)) i)

  swap_driven : (ports : Ports) → IsWellDriven ports m → IsWellDriven ports (swapped m fine)
  swap_driven ports h = record {
    inputs = λ p. subst (λ lines. Distinct (places (role_points Input p lines))) (swapped_ports m fine) (h.inputs p);
    rows = λ p. rows_distinct ports p (h.rows p);
    apart = λ p x i here n j role of.
        let port : In n (ports_of m.wires) = subst (In n) (sym (swapped_ports m fine)) j in
        ⊎_elim
        (λ l. let a = in_wire_spots p (fresh m fine) x.place l in
        names_apart a.name a.there (subst (λ name. In name (names_of m.wires)) (one_name p x.place n.name a.name of a.spot) (port_name m.wires n port)))
        (λ r. let k = In-mapped (λ (row : Driven). row.place) x.place (rows_of ports p m) r in
        h.apart p k.0 k.1 (ap (λ (q : Place). q.path) (sym k.2) ∙ here) n port role (subst (λ (q : Place). IsOf n.name q.spot) k.2 of))
        (In-cases x.place (wire_spots p (fresh m fine)) (places_of (rows_of ports p m)) (from ports p x i));
    instances = subst (λ frames. Distinct (map (λ (f : Frame). f.name) frames)) (swapped_children m fine) h.instances;
  }

  pub techmap_driven : (ports : Ports) → IsWellDriven ports m → IsWellDriven ports (techmap_of m)
  techmap_driven ports h = subst (IsWellDriven ports) (sym (swapped_is m fine)) (swap_driven ports h)
