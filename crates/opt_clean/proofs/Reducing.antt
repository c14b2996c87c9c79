-- The kept cells with the connections to what the outside sees are a pass.
use Rattle.std.proofs.Common.{◌≡◌, ℕ, ◌+◌, ◌<◌, ◌≤◌, Bool, true, false, if◌then◌else◌, List, [], ◌∷◌, ◌++◌, length, Option, Some, None, inl, inr, ⊎_elim, refl, sym, ◌∙◌, ap, subst, arith}
use Rattle.std.specs.Prelude.{not, map, flat_map, is_some, ◌==◌}
use Rattle.std.proofs.lemmas.Bool.{eq-eqb}
use Rattle.std.proofs.lemmas.List.{append-nil, length-map}
use Rattle.rtl_bits.specs.declared.bit.Bit.{Bit}
use Rattle.rtl_bits.specs.Knowledge.{Below}
use Rattle.rtl_sig.specs.declared.sig.SigBit.{SigBit}
use Rattle.rtl_sig.specs.declared.sig.SigBit.TheVariants.{Wire as OnWire}
use Rattle.rtl_sig.specs.declared.sig.WireBit.{WireBit}
use Rattle.rtl_ir.specs.declared.cell.Cell.{Cell}
use Rattle.rtl_ir.specs.declared.module.Link.{Link}
use Rattle.rtl_ir.specs.declared.module.Module.{Module}
use Rattle.rtl_ir.specs.declared.ports.PortTable.{PortTable}
use Rattle.rtl_ir.specs.declared.wire.Wire.{Wire}
use Rattle.rtl_ir.specs.Flat.Cell as flat
use Rattle.rtl_ir.specs.Flat.Cell.{cell_kind, cell_rows, cells_rows, instances}
use Rattle.rtl_ir.specs.Flat.Driver.{Driven}
use Rattle.rtl_ir.specs.Flat.Link.{link_rows}
use Rattle.rtl_ir.specs.Flat.Place.{Frame, IsOf, Path, Place}
use Rattle.rtl_ir.specs.Flat.Point.{bit_place, point}
use Rattle.rtl_ir.specs.Flat.Rows.{plain_rows, rows_of}
use Rattle.rtl_ir.specs.Flat.Start.{start_of}
use Rattle.rtl_ir.specs.Flat.Tree as tree
use Rattle.rtl_ir.specs.Follow.{all_joins, source_at}
use Rattle.rtl_ir.specs.declared.follow.Join.{Join}
use Rattle.rtl_ir.specs.Scope.{without_processes}
use Rattle.rtl_ir.specs.Signals.{bits_of_wire, has_constant, wire_bits}
use Rattle.rtl_ir.specs.Types as types
use Rattle.rtl_ir.specs.Types.{CellType, cell_type}
use Rattle.rtl_ir.specs.Outputs.{drives_pin}
use Rattle.rtl_ir.specs.declared.cell.Pin.{Pin}
use Rattle.net_model.specs.Lists.{Distinct, In}
use Rattle.net_model.specs.Refine.{IsMet, IsWellDriven, RefinesOver, Solved, places_of}
use Rattle.net_model.specs.Run.{Time}
use Rattle.net_model.specs.Valuation.{Valuation, read, passed_of}
use Rattle.net_model.specs.Within.{BitIn, Each, LinkIn}
use Rattle.net_model.proofs.Lifted.{lifted}
use Rattle.net_model.proofs.Members.{Distinct-append, In-cases, In-left, In-map, In-mapped, In-right, apart_at, apart_from, map-append, map-map}
use Rattle.follow_laws.proofs.Signals.{follow_in}
use Rattle.pass_laws.specs.Bits.{cells_bits, links_bits, pin_bits}
use Rattle.pass_laws.specs.Pass.{IsPass}
use Rattle.pass_laws.specs.Ready.{IsReady}
use Rattle.pass_laws.specs.Replaces.{IsEven, IsOutside}
use Rattle.pass_laws.proofs.Accesses.{AreAccesses, SameNumbers, access_moved, numbers_outside, same_more}
use Rattle.pass_laws.proofs.Counting.{count, count_more}
use Rattle.pass_laws.proofs.Faultless.{no_faults, plain}
use Rattle.pass_laws.proofs.Forming.{own_accesses, own_cells, ready_with}
use Rattle.pass_laws.proofs.Passes.{IsPass_trans}
use Rattle.opt_clean.specs.Clean.{reduced}
use Rattle.opt_clean.specs.Keep.{is_shown, output_bits}
use Rattle.opt_clean.specs.Kept.{input_bits, kept_marks, marked}
use Rattle.opt_clean.specs.Runs.{is_connected, links_of, run_link, runs, shown_links, source_of, wire_links}
use Rattle.opt_clean.specs.Wires.{named_bits}
use Rattle.opt_clean.proofs.Joins.{join_row, lefts_in, source_in}
use Rattle.opt_clean.proofs.Keeping.{Home, MayReduce, cells_row, children_stay, from, gone_outside, in_length, join_in, kept_stored, left_named, left_part, one_spot, parts_apart, plain_links, reduced_x_refines, right_part, row_cells, row_in, stored, with_marked}
use Rattle.opt_clean.proofs.Marks.{marked_in, others}
use Rattle.opt_clean.proofs.Named.{named_within}
use Rattle.opt_clean.proofs.Once.{body_once}
use Rattle.opt_clean.proofs.Ports.{some_at}
use Rattle.pass_laws.proofs.Once.{count_distinct, count_in, count_or, twice}
use Rattle.opt_clean.proofs.Rounds.{closed}
use Rattle.opt_clean.proofs.Showing.{row_from, runs_fit, shown_bits, shown_distinct, shown_in, shown_lefts, shown_rows}
use Rattle.opt_clean.proofs.Ways.{origin_or}
use Rattle.pass_laws.proofs.Ports.{single}

-- the cells that are kept and the others drive what all drive
parts_count : (ports : types.Ports) (ts : List Bool) (cs : List Cell) (b : WireBit) → count b (cells_bits ports cs) ≡ count b (cells_bits ports (marked ts cs)) + count b (cells_bits ports (others ts cs))
parts_count ports [] cs b = omega arith
parts_count ports (t ∷ ts) [] b = omega arith
parts_count ports (true ∷ ts) (c ∷ cs) b =
    omega (arith, parts_count ports ts cs b, count_more b (output_bits ports c) (cells_bits ports cs), count_more b (output_bits ports c) (cells_bits ports (marked ts cs)))
parts_count ports (false ∷ ts) (c ∷ cs) b =
    omega (arith, parts_count ports ts cs b, count_more b (output_bits ports c) (cells_bits ports cs), count_more b (output_bits ports c) (cells_bits ports (others ts cs)))

-- what pins drive is among their bits
pub pins_have : (type : CellType) (pins : List Pin) (b : WireBit) → In b (pin_bits type pins) → In b (flat_map (λ (p : Pin). wire_bits p.sig) pins)
pins_have type [] b i = absurd i
pins_have type (p ∷ pins) b i =
    ⊎_elim
    (λ l. In-left b (wire_bits p.sig) (flat_map (λ (q : Pin). wire_bits q.sig) pins) (by (drives_pin type p.name) l))
    (λ r. In-right b (wire_bits p.sig) (flat_map (λ (q : Pin). wire_bits q.sig) pins) (pins_have type pins b r))
    (In-cases b (if drives_pin type p.name then wire_bits p.sig else []) (pin_bits type pins) i)
  where
    by : (t : Bool) → In b (if t then wire_bits p.sig else []) → In b (wire_bits p.sig)
    by true j = j
    by false j = absurd j

-- where the cells that go are none of a memory, those of memories that are kept have no faults
pub marked_accesses : (ports : types.Ports) (m : Module) (ts : List Bool) (earlier later : List Cell) → SameNumbers earlier later → (cs : List Cell) → Each IsOutside (others ts cs) → AreAccesses ports m earlier cs → AreAccesses ports m later (marked ts cs)
marked_accesses ports m [] earlier later same cs gone a = tt
marked_accesses ports m (t ∷ ts) earlier later same [] gone a = tt
marked_accesses ports m (true ∷ ts) earlier later same (c ∷ cs) gone a =
    let here = access_moved m m refl earlier later same c (cell_type ports c.kind_name) a.0 in
    (here, marked_accesses ports m ts (earlier ++ c ∷ []) (later ++ c ∷ []) (same_more earlier later (c ∷ []) (c ∷ []) same (λ name. refl)) cs gone a.1)
marked_accesses ports m (false ∷ ts) earlier later same (c ∷ cs) gone a =
    let none : SameNumbers (c ∷ []) [] = λ name. numbers_outside (c ∷ []) one name in
    marked_accesses ports m ts (earlier ++ c ∷ []) later (subst (SameNumbers (earlier ++ c ∷ [])) (append-nil later) (same_more earlier later (c ∷ []) [] same none)) cs (λ d i. gone d (inr i)) a.1
  where
    one : Each IsOutside (c ∷ [])
    one d (inl e) = gone d (inl e)
    one d (inr i) = absurd i

-- the places of the rows of marked cells are among those of all, and no more often there
marked_places : (start : SigBit → Bit) (ports : flat.Ports) (p : Path) (wires : List Wire) (ts : List Bool) (cs : List Cell) → Distinct (places_of (cells_rows start ports p wires cs)) → Distinct (places_of (cells_rows start ports p wires (marked ts cs)))
marked_places start ports p wires [] cs h = tt
marked_places start ports p wires (t ∷ ts) [] h = tt
marked_places start ports p wires (true ∷ ts) (c ∷ cs) h =
    let first : List Driven = cell_rows start ports p wires c (cell_kind c) in
    let rest : List Driven = cells_rows start ports p wires cs in
    let some : List Driven = cells_rows start ports p wires (marked ts cs) in
    let parts : Distinct (places_of first ++ places_of rest) = subst Distinct (map-append (λ (x : Driven). x.place) first rest) h in
    subst Distinct (sym (map-append (λ (x : Driven). x.place) first some)) (Distinct-append (places_of first) (places_of some) (left_part (places_of first) (places_of rest) parts) (marked_places start ports p wires ts cs (right_part (places_of first) (places_of rest) parts)) (λ q i j.
    let x = In-mapped (λ (z : Driven). z.place) q some j in
    let c' = cells_row start ports p wires (marked ts cs) x.0 x.1 in
    parts_apart (places_of first) (places_of rest) parts q i (subst (λ z. In z (places_of rest)) (sym x.2) (In-map (λ (z : Driven). z.place) x.0 rest (row_cells start ports p wires cs c'.0 x.0 (marked_in ts cs c'.0 c'.1) c'.2)))))
marked_places start ports p wires (false ∷ ts) (c ∷ cs) h =
    let first : List Driven = cell_rows start ports p wires c (cell_kind c) in
    let rest : List Driven = cells_rows start ports p wires cs in
    marked_places start ports p wires ts cs (right_part (places_of first) (places_of rest) (subst Distinct (map-append (λ (x : Driven). x.place) first rest) h))

-- different items stay different where a function tells them apart
map_distinct : {A B : Type 0} (f : A → B) (xs : List A) → ((x y : A) → In x xs → In y xs → f x ≡ f y → x ≡ y) → Distinct xs → Distinct (map f xs)
map_distinct f [] h d = tt
map_distinct f (x ∷ xs) h d = (
  apart_from (f x) (map f xs) (λ y i e.
      let k = In-mapped f y xs i in
      apart_at x xs d.0 k.0 k.1 (h x k.0 (inl refl) (inr k.1) (e ∙ k.2))),
  map_distinct f xs (λ y z i j. h y z (inr i) (inr j)) d.1,
)

-- each connection to what the outside sees is even, and names wires of the module
shown_each : (P : Link → Type 0) (fits : WireBit → Bool) (source : WireBit → SigBit) → ((run : List WireBit) → ((b : WireBit) → In b run → fits b ≡ true) → P (run_link source run)) → (wire : ℕ) (ws : List Wire) → Each P (shown_links fits source wire ws)
shown_each P fits source h wire [] x i = absurd i
shown_each P fits source h wire (w ∷ ws) x i =
    ⊎_elim
    (λ l. here (is_shown w) l)
    (λ r. shown_each P fits source h (wire + 1) ws x r)
    (In-cases x (if is_shown w then wire_links fits source wire w.width else []) (shown_links fits source (wire + 1) ws) i)
  where
    here : (t : Bool) → In x (if t then wire_links fits source wire w.width else []) → P x
    here false j = absurd j
    here true j =
        let k = In-mapped (run_link source) x (runs fits [] (bits_of_wire wire w.width)) j in
        subst P (sym k.2) (h k.0 (runs_fit fits [] (bits_of_wire wire w.width) (λ b i. absurd i) k.0 k.1))

module _ (tports : types.Ports) (m : Module) (marks : List Bool) (fine : MayReduce tports m marks) (ready : IsReady tports m) where
  abbrev js : List Join
  js = all_joins m.links

  abbrev pub is_driven : WireBit → Bool
  is_driven b = is_connected m.links b

  -- the bits that get a connection
  abbrev shown : List WireBit
  shown = shown_bits is_driven 0 m.wires

  -- a bit that gets one has one already
  has_source : (b : WireBit) → is_driven b ≡ true → (r : SigBit) × (source_at js b ≡ Some r)
  has_source b e = by (source_at js b) refl e
    where
      by : (o : Option SigBit) → source_at js b ≡ o → is_some o ≡ true → (r : SigBit) × (source_at js b ≡ Some r)
      by None f g = absurd (cc)
      by (Some r) f g = (r, f)

  driven_left : (b : WireBit) → is_driven b ≡ true → In b (links_bits m.links)
  driven_left b e = let s = has_source b e in lefts_in m.links (record { bit = b; source = s.0 }) (source_in js b s.0 s.1)

  driven_within : (b : WireBit) → is_driven b ≡ true → b.wire < length m.wires
  driven_within b e = in_length tports m marks fine b (fine.homes b (left_named tports m marks fine b (driven_left b e)))

  module _ (source : WireBit → SigBit) (sound : (b : WireBit) → is_driven b ≡ true → BitIn (length m.wires) (source b)) where
    abbrev pub links : List Link
    links = shown_links is_driven source 0 m.wires

    -- the module with the marked cells, and a connection from the source to each bit that gets one
    abbrev pub after : Module
    after = with_marked marks links m

    even : Each IsEven links
    even = shown_each IsEven is_driven source (λ run h. record {
      width = ap not (ap (λ n. n == length (map source run)) (length-map run OnWire ∙ sym (length-map run source)) ∙ eq-eqb (length (map source run)) (length (map source run)) refl);
      wires = none run;
    }) 0 m.wires
      where
        none : (run : List WireBit) → has_constant (map OnWire run) ≡ false
        none [] = refl
        none (b ∷ run) = none run

    links_within : Each (LinkIn (length m.wires)) links
    links_within = shown_each (LinkIn (length m.wires)) is_driven source (λ run h. (
      λ x i. let k = In-mapped OnWire x run i in subst (BitIn (length m.wires)) (sym k.2) (driven_within k.0 (h k.0 k.1)),
      λ x i. let k = In-mapped source x run i in subst (BitIn (length m.wires)) (sym k.2) (sound k.0 (h k.0 k.1)),
    )) 0 m.wires

    fewer : (b : WireBit) → count b (cells_bits tports (marked marks m.cells) ++ links_bits links) ≤ count b (cells_bits tports m.cells ++ links_bits m.links)
    fewer b =
        let lefts : count b (links_bits links) ≡ count b shown = ap (count b) (shown_lefts is_driven source 0 m.wires) in
        let few : count b shown ≤ count b (links_bits m.links) =
        ⊎_elim
        (λ e. omega (arith, e))
        (λ i. let one : count b shown ≤ 1 = count_distinct b shown (shown_distinct is_driven 0 m.wires) in
        let has : 1 ≤ count b (links_bits m.links) = count_in b (links_bits m.links) (driven_left b (shown_in is_driven 0 m.wires b i).fit) in
        omega (arith, one, has))
        (count_or b shown)
        in
        omega (arith, lefts, few, parts_count tports marks m.cells b, count_more b (cells_bits tports (marked marks m.cells)) (links_bits links), count_more b (cells_bits tports m.cells) (links_bits m.links))

    after_ready : IsReady tports after
    after_ready = ready_with tports m ready (marked marks m.cells) links (record {
      cells = λ c i. own_cells tports m ready c (marked_in marks m.cells c i);
      accesses = marked_accesses tports m marks [] [] (λ name. refl) m.cells (gone_outside tports m marks fine) (own_accesses tports m ready);
      links = even;
      cells_within = λ c i. ready.within.cells c (marked_in marks m.cells c i);
      links_within = links_within;
      fewer = fewer;
    })

    module _ (over : flat.Ports) where
      abbrev start : SigBit → Bit
      start = start_of m.wires m.processes

      abbrev cells : Path → List Driven
      cells p = cells_rows start over p m.wires (marked marks m.cells)

      -- the rows of the memories, as before
      abbrev words : Path → List Driven
      words p = stored tports m marks fine p

      abbrev shown_places : Path → List Place
      shown_places p = map (bit_place p m.wires) shown

      pub after_plain : (p : Path) → plain_rows p after ≡ map (row_from p m.wires source) shown ++ words p
      after_plain p =
          plain_links p after fine.processes
          ∙ (λ i. shown_rows p m.wires is_driven source 0 m.wires i ++ kept_stored tports m marks fine p i)

      after_places : (p : Path) → places_of (rows_of over p after) ≡ places_of (cells p) ++ (shown_places p ++ places_of (words p))
      after_places p =
          map-append (λ (x : Driven). x.place) (cells p) (plain_rows p after)
          ∙ ap (λ z. places_of (cells p) ++ z) (ap places_of (after_plain p) ∙ map-append (λ (x : Driven). x.place) (map (row_from p m.wires source) shown) (words p) ∙ ap (λ z. z ++ places_of (words p)) (map-map (row_from p m.wires source) (λ (x : Driven). x.place) shown))

      -- the same of the module
      before_places : (p : Path) → places_of (rows_of over p m) ≡ places_of (cells_rows start over p m.wires m.cells) ++ (places_of (link_rows p m.wires m.links) ++ places_of (words p))
      before_places p =
          map-append (λ (x : Driven). x.place) (cells_rows start over p m.wires m.cells) (plain_rows p m)
          ∙ ap (λ z. places_of (cells_rows start over p m.wires m.cells) ++ z) (ap places_of (plain_links p m fine.processes) ∙ map-append (λ (x : Driven). x.place) (link_rows p m.wires m.links) (words p))

      -- the row of a bit that gets a connection
      had_row : (driven : IsWellDriven over m) (p : Path) (b : WireBit) → In b shown → (y : Driven) × In y (rows_of over p m) × (bit_place p m.wires b ≡ y.place)
      had_row driven p b i =
          let s = has_source b (shown_in is_driven 0 m.wires b i).fit in
          let j : Join = record { bit = b; source = s.0 } in
          (join_row p m.wires j, row_in tports m marks fine over p driven j (source_in js b s.0 s.1), refl)

      -- each row has the place of one of the module
      before_row : (driven : IsWellDriven over m) (p : Path) (x : Driven) → In x (rows_of over p after) → (y : Driven) × In y (rows_of over p m) × (x.place ≡ y.place)
      before_row driven p x i =
          ⊎_elim
          (λ l. let c = cells_row start over p m.wires (marked marks m.cells) x l in
          (x, In-left x (cells_rows start over p m.wires m.cells) (plain_rows p m) (row_cells start over p m.wires m.cells c.0 x (marked_in marks m.cells c.0 c.1) c.2), refl))
          (λ r. ⊎_elim
          (λ a. let k = In-mapped (row_from p m.wires source) x shown a in
          let y = had_row driven p k.0 k.1 in
          (y.0, y.1, ap (λ (z : Driven). z.place) k.2 ∙ y.2))
          (λ b. (x, In-right x (cells_rows start over p m.wires m.cells) (plain_rows p m) (subst (In x) (sym (plain_links p m fine.processes)) (In-right x (link_rows p m.wires m.links) (words p) b)), refl))
          (In-cases x (map (row_from p m.wires source) shown) (words p) (subst (In x) (after_plain p) r)))
          (In-cases x (cells p) (plain_rows p after) i)

      -- the place of a bit that gets a connection is one of a connection
      had_link : IsWellDriven over m → (p : Path) (q : Place) → In q (shown_places p) → In q (places_of (link_rows p m.wires m.links))
      had_link driven p q i =
          let b = In-mapped (bit_place p m.wires) q shown i in
          let s = has_source b.0 (shown_in is_driven 0 m.wires b.0 b.1).fit in
          let j : Join = record { bit = b.0; source = s.0 } in
          subst (λ z. In z (places_of (link_rows p m.wires m.links))) (sym b.2) (In-map (λ (z : Driven). z.place) (join_row p m.wires j) (link_rows p m.wires m.links) (join_in tports m marks fine over p driven j (source_in js b.0 s.0 s.1)))

      -- the place of a row of a kept cell is one of a cell
      had_cell : (p : Path) (q : Place) → In q (places_of (cells p)) → In q (places_of (cells_rows start over p m.wires m.cells))
      had_cell p q i =
          let x = In-mapped (λ (z : Driven). z.place) q (cells p) i in
          let c = cells_row start over p m.wires (marked marks m.cells) x.0 x.1 in
          subst (λ z. In z (places_of (cells_rows start over p m.wires m.cells))) (sym x.2) (In-map (λ (z : Driven). z.place) x.0 (cells_rows start over p m.wires m.cells) (row_cells start over p m.wires m.cells c.0 x.0 (marked_in marks m.cells c.0 c.1) c.2))

      places_once : IsWellDriven over m → (p : Path) → Distinct (places_of (cells p) ++ (shown_places p ++ places_of (words p)))
      places_once driven p =
          let old : List Place = places_of (cells_rows start over p m.wires m.cells) in
          let lefts : List Place = places_of (link_rows p m.wires m.links) in
          let all : Distinct (old ++ (lefts ++ places_of (words p))) = subst Distinct (before_places p) (driven.rows p) in
          let rest : Distinct (lefts ++ places_of (words p)) = right_part old (lefts ++ places_of (words p)) all in
          Distinct-append (places_of (cells p)) (shown_places p ++ places_of (words p))
          (marked_places start over p m.wires marks m.cells (left_part old (lefts ++ places_of (words p)) all))
          (Distinct-append (shown_places p) (places_of (words p)) (map_distinct (bit_place p m.wires) shown (λ b c i j e. one_spot tports m marks fine p b c (driven_within b (shown_in is_driven 0 m.wires b i).fit) (driven_within c (shown_in is_driven 0 m.wires c j).fit) e) (shown_distinct is_driven 0 m.wires)) (right_part lefts (places_of (words p)) rest) (λ q i j. parts_apart lefts (places_of (words p)) rest q (had_link driven p q i) j))
          (λ q i j. parts_apart old (lefts ++ places_of (words p)) all q (had_cell p q i) (⊎_elim (λ l. In-left q lefts (places_of (words p)) (had_link driven p q l)) (λ r. In-right q lefts (places_of (words p)) r) (In-cases q (shown_places p) (places_of (words p)) j)))

      after_driven : IsWellDriven over m → IsWellDriven over after
      after_driven driven = record {
        inputs = driven.inputs;
        rows = λ p. subst Distinct (sym (after_places p)) (places_once driven p);
        apart = λ p x i here n j role of.
            let y = before_row driven p x i in
            driven.apart p y.0 y.1 (sym (ap (λ (q : Place). q.path) y.2) ∙ here) n j role (subst (λ (q : Place). IsOf n.name q.spot) y.2 of);
        instances = subst (λ frames. Distinct (map (λ (f : Frame). f.name) frames)) (children_stay tports m marks fine) driven.instances;
      }

  pub from_sound : (b : WireBit) → is_driven b ≡ true → BitIn (length m.wires) (from tports m marks fine b)
  from_sound b e =
      ⊎_elim
      (λ f. subst (BitIn (length m.wires)) (sym f) (follow_in (length m.wires) m.links ready.within.links (OnWire b) (driven_within b e)))
      (λ f. subst (BitIn (length m.wires)) (sym f) tt)
      (origin_or js (OnWire b))

  pub follow_sound : (b : WireBit) → is_driven b ≡ true → BitIn (length m.wires) (source_of m.links b)
  follow_sound b e = follow_in (length m.wires) m.links ready.within.links (OnWire b) (driven_within b e)

  -- the module with x where a way runs into a loop, and with the bit itself there
  abbrev pub with_x : Module
  with_x = after (from tports m marks fine) from_sound

  abbrev pub with_loops : Module
  with_loops = after (source_of m.links) follow_sound

  -- a row that has x is met by any other
  loops_met : (p : Path) (t : Time Place) (w : Valuation) (rows : List Driven) → Solved rows t w → ((b : WireBit) → In b shown → In (row_from p m.wires (source_of m.links) b) rows) → (b : WireBit) → In b shown → IsMet (row_from p m.wires (from tports m marks fine) b) t w
  loops_met p t w rows s h b i =
      ⊎_elim
      (λ e. subst (λ z. Below (passed_of (read w (point p m.wires z))) (w (bit_place p m.wires b))) (sym e) (s.met (row_from p m.wires (source_of m.links) b) (h b i)))
      (λ e. subst (λ z. Below (passed_of (read w (point p m.wires z))) (w (bit_place p m.wires b))) (sym e) tt)
      (origin_or js (OnWire b))

  -- the same bits are driven
  loops_driven : (over : flat.Ports) → IsWellDriven over with_x → IsWellDriven over with_loops
  loops_driven over h = record {
    inputs = h.inputs;
    rows = λ p. subst Distinct (same p) (h.rows p);
    apart = λ p x i here n j role of.
        let y = In-mapped (λ (z : Driven). z.place) x.place (rows_of over p with_x) (subst (In x.place) (sym (same p)) (In-map (λ (z : Driven). z.place) x (rows_of over p with_loops) i)) in
        h.apart p y.0 y.1 (sym (ap (λ (q : Place). q.path) y.2) ∙ here) n j role (subst (λ (q : Place). IsOf n.name q.spot) y.2 of);
    instances = h.instances;
  }
    where
      same : (p : Path) → places_of (rows_of over p with_x) ≡ places_of (rows_of over p with_loops)
      same p = after_places (from tports m marks fine) from_sound over p ∙ sym (after_places (source_of m.links) follow_sound over p)

  loops_refine : (over : flat.Ports) → RefinesOver with_x with_loops over
  loops_refine over = lifted with_x with_loops over (record {
    id = refl;
    ports_same = refl;
    children = refl;
    rows = λ p t w s before d i.
        let start : SigBit → Bit = start_of m.wires m.processes in
        let cells : List Driven = cells_rows start over p m.wires (marked marks m.cells) in
        let words : List Driven = stored tports m marks fine p in
        let some : List Driven = map (row_from p m.wires (from tports m marks fine)) shown in
        let all : List Driven = map (row_from p m.wires (source_of m.links)) shown in
        let plain_x : plain_rows p with_x ≡ some ++ words = after_plain (from tports m marks fine) from_sound over p in
        let plain_l : plain_rows p with_loops ≡ all ++ words = after_plain (source_of m.links) follow_sound over p in
        let loops : (x : Driven) → In x (all ++ words) → In x (rows_of over p with_loops) = λ x j. In-right x cells (plain_rows p with_loops) (subst (In x) (sym plain_l) j) in
        ⊎_elim
        (λ l. s.met d (In-left d cells (plain_rows p with_loops) l))
        (λ r. ⊎_elim
        (λ a. let k = In-mapped (row_from p m.wires (from tports m marks fine)) d shown a in
        subst (λ z. IsMet z t w) (sym k.2) (loops_met p t w (rows_of over p with_loops) s (λ b j. loops (row_from p m.wires (source_of m.links) b) (In-left (row_from p m.wires (source_of m.links) b) all words (In-map (row_from p m.wires (source_of m.links)) b shown j))) k.0 k.1))
        (λ b. s.met d (loops d (In-right d all words b)))
        (In-cases d some words (subst (In d) plain_x r)))
        (In-cases d cells (plain_rows p with_x) i);
  })

module _ (table : PortTable) (m : Module) (ready : IsReady (types.table_ports table.modules) m) (marks : List Bool) (fine : MayReduce (types.table_ports table.modules) m marks) where
  abbrev tports : types.Ports
  tports = types.table_ports table.modules

  abbrev fports : flat.Ports
  fports = tree.table_ports table

  x_pass : IsPass table m (with_x tports m marks fine ready)
  x_pass = record {
    id = refl;
    ports = refl;
    instances = children_stay tports m marks fine;
    driven = λ over agree h. after_driven tports m marks fine ready (from tports m marks fine) (from_sound tports m marks fine ready) over h;
    ready = λ h. after_ready tports m marks fine ready (from tports m marks fine) (from_sound tports m marks fine ready);
    refines = reduced_x_refines tports m marks fine fports;
  }

  loops_pass : IsPass table (with_x tports m marks fine ready) (with_loops tports m marks fine ready)
  loops_pass = record {
    id = refl;
    ports = refl;
    instances = refl;
    driven = λ over agree h. loops_driven tports m marks fine ready over h;
    ready = λ h. after_ready tports m marks fine ready (source_of m.links) (follow_sound tports m marks fine ready);
    refines = loops_refine tports m marks fine ready fports;
  }

  pub reduces : IsPass table m (with_loops tports m marks fine ready)
  reduces =
      IsPass_trans table m (with_x tports m marks fine ready) (with_loops tports m marks fine ready) x_pass loops_pass

-- the bits that a module names are of its wires
homes_of : (ports : types.Ports) (m : Module) → IsReady ports m → (b : WireBit) → In b (named_bits m) → Home m.wires b
homes_of ports m ready b i =
    let k = some_at m.wires b.wire (named_within m ready.within b i) in record { of = k.0; there = k.1 }

-- a module that a pass may be given, of which each input is followed
pub may_reduce : (ports : types.Ports) (m : Module) → IsReady ports m → ((c : Cell) → In c m.cells → (b : WireBit) → In b (input_bits ports c) → source_of m.links b ≡ OnWire b) → MayReduce ports m (kept_marks ports m.wires (links_of m.wires m.links) m.cells)
may_reduce ports m ready followed =
    let marks : List Bool = kept_marks ports m.wires (links_of m.wires m.links) m.cells in
    let none = plain ports m ready.faultless in
    record {
      processes = none.processes;
      named = ready.named;
      homes = homes_of ports m ready;
      single = single m.id [] m.wires (no_faults without_processes ports m ready.faultless).wires;
      linked = λ b i j. twice b (cells_bits ports m.cells) (links_bits m.links) (body_once ports m ready b) i j;
      apart = λ b i j.
          absurd (omega (arith, body_once ports m ready b, count_more b (cells_bits ports m.cells) (links_bits m.links), parts_count ports marks m.cells b, count_in b (cells_bits ports (marked marks m.cells)) i, count_in b (cells_bits ports (others marks m.cells)) j));
      followed = followed;
      closed = closed ports m.wires (links_of m.wires m.links) m.cells;
    }

pub reduced_pass : (table : PortTable) (m : Module) → IsReady (types.table_ports table.modules) m → ((c : Cell) → In c m.cells → (b : WireBit) → In b (input_bits (types.table_ports table.modules) c) → source_of m.links b ≡ OnWire b) → IsPass table m (reduced (types.table_ports table.modules) m)
unfolding links_of
reduced_pass table m ready followed =
    reduces table m ready (kept_marks (types.table_ports table.modules) m.wires (links_of m.wires m.links) m.cells) (may_reduce (types.table_ports table.modules) m ready followed)
