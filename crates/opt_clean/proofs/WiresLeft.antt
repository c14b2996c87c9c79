-- A module with the wires that stay alone is a pass.
use Rattle.std.proofs.Common.{◌≡◌, ℕ, zero, suc, ◌+◌, ◌<◌, ◌≤◌, Bool, true, false, cond, List, [], ◌∷◌, ◌++◌, length, Option, Some, None, inl, inr, ⊎_elim, refl, sym, ◌∙◌, ap, subst, arith}
use Rattle.std.specs.Prelude.{◌&&◌, ◌||◌, ◌==◌, flat_map, map, slice_get, slice_index_or}
use Rattle.std.proofs.lemmas.Bool.{eq-eqb, eqb-true}
use Rattle.rtl_bits.specs.declared.bit.Bit.TheVariants.{X}
use Rattle.rtl_bits.specs.Tables.{seen_of}
use Rattle.rtl_sig.specs.declared.sig.SigBit.{SigBit}
use Rattle.rtl_sig.specs.declared.sig.SigBit.TheVariants.{Fixed, Wire as OnWire}
use Rattle.rtl_sig.specs.declared.sig.WireBit.{WireBit}
use Rattle.cell_types.specs.PinName.{pin_text}
use Rattle.rtl_ir.specs.declared.cell.Cell.{Cell}
use Rattle.rtl_ir.specs.declared.cell.Pin.{Pin}
use Rattle.rtl_ir.specs.declared.module.Link.{Link}
use Rattle.rtl_ir.specs.declared.module.Module.{Module}
use Rattle.rtl_ir.specs.declared.ports.PortTable.{PortTable}
use Rattle.rtl_ir.specs.declared.process.Process.{Process}
use Rattle.rtl_ir.specs.declared.wire.Role.TheVariants.{Input}
use Rattle.rtl_ir.specs.declared.wire.Wire.{Wire}
use Rattle.rtl_ir.specs.Drivers.{drive_count, drives_of, port_drives}
use Rattle.rtl_ir.specs.Faults.Processes.{process_faults}
use Rattle.rtl_ir.specs.Flat.Cell as flat
use Rattle.rtl_ir.specs.Flat.Cell.{instances}
use Rattle.rtl_ir.specs.Flat.Place.{Frame, OfWire, Path}
use Rattle.rtl_ir.specs.Flat.Point.{At, name_or_empty, point}
use Rattle.rtl_ir.specs.Flat.Rows.{plain_rows, rows_of}
use Rattle.rtl_ir.specs.Flat.Start.{init_bit, init_bits, start_of}
use Rattle.rtl_ir.specs.Flat.Tree as tree
use Rattle.rtl_ir.specs.Flat.Tree.{places, role_points}
use Rattle.rtl_ir.specs.Ports.{in_number_order, is_port, line_of, ports_of}
use Rattle.rtl_ir.specs.Scope.{without_processes}
use Rattle.rtl_ir.specs.Signals.{same_bit, wire_bits}
use Rattle.rtl_ir.specs.Types as types
use Rattle.rtl_ir.specs.Types.{cell_type}
use Rattle.net_model.specs.Lists.{Distinct, In}
use Rattle.net_model.specs.Refine.{IsWellDriven, RefinesOver, places_of}
use Rattle.net_model.specs.Within.{BitIn, Each, IsWithin, LinkIn, SigIn}
use Rattle.net_model.proofs.Lifted.{lifted}
use Rattle.net_model.proofs.Members.{In-cases, In-left, In-mapped, In-right, map-append}
use Rattle.pass_laws.specs.Bits.{cells_bits, links_bits, pin_bits}
use Rattle.pass_laws.specs.Pass.{IsPass}
use Rattle.pass_laws.specs.Ready.{IsReady}
use Rattle.pass_laws.specs.Replaces.{IsEven}
use Rattle.pass_laws.proofs.Accesses.{AreAccesses, none_there}
use Rattle.pass_laws.proofs.Alone.{IsSound, no_link_faults}
use Rattle.pass_laws.proofs.Counting.{bits_of, count, count_more, driven_count}
use Rattle.pass_laws.proofs.Faultless.{HasNoFaults, IsPlain, no_faults, plain}
use Rattle.pass_laws.proofs.Forming.{all_none, own_accesses, own_cells, own_links}
use Rattle.pass_laws.proofs.Widening.{cells_under, links_under, none_counted, ports_under}
use Rattle.rtl_ir.specs.Attributes.{is_kept}
use Rattle.opt_clean.specs.Wires.{cell_bits, link_bits, moved_bit, moved_cell, moved_link, moved_pin, named_bits, names_wire, new_place, stays, trimmed, wire_marks}
use Rattle.opt_clean.proofs.Bits.{any_in, flat_in, in_flat}
use Rattle.opt_clean.proofs.Ends.{has_signal}
use Rattle.opt_clean.proofs.Keeping.{plain_links}
use Rattle.opt_clean.proofs.Marks.{marked_distinct, marked_map}
use Rattle.opt_clean.proofs.Moved.{cells_move, cells_stay, kinds_stay, links_move, links_stay, move_wire, moved_even, moved_sound, signal_keeps}
use Rattle.opt_clean.proofs.MovedMemories.{memories_move, moved_accesses}
use Rattle.opt_clean.proofs.Named.{named_within}
use Rattle.opt_clean.proofs.Ports.{some_at}
use Rattle.opt_clean.proofs.Reducing.{pins_have}
use Rattle.opt_clean.proofs.Trimming.{fewer_wires, gone_inner, kept_ports, mark_at, marked_at, none_twice, own_count, place_at, place_one, port_count}

none_past : (ws : List Wire) (k : ℕ) → slice_get ws k ≡ None → length ws ≤ k
none_past [] k e = omega arith
none_past (w ∷ ws) zero e = absurd (cc)
none_past (w ∷ ws) (suc k) e = omega (arith, none_past ws k e)

-- a start value, where no process gives one
plain_start : (wires : List Wire) (processes : List Process) (b : WireBit) → processes ≡ [] → start_of wires processes (OnWire b) ≡ seen_of (init_bit wires b)
plain_start wires [] b e = refl
plain_start wires (p ∷ processes) b e = absurd (cc)

module _ (ports : types.Ports) (m : Module) (ready : IsReady ports m) where
  abbrev bits : List WireBit
  bits = named_bits m

  abbrev marks : List Bool
  marks = wire_marks bits 0 m.wires

  abbrev after : Module
  after = trimmed m

  fine : IsPlain m
  fine = plain ports m ready.faultless

  -- a bit that is named is of a wire that stays
  record Stays (b : WireBit) : Type 0 where
    of : Wire
    there : slice_get m.wires b.wire ≡ Some of
    mark : slice_get marks b.wire ≡ Some true

  stays_at : (k : ℕ) (w : Wire) → slice_get m.wires k ≡ Some w → stays bits k w ≡ true → slice_get marks k ≡ Some true
  stays_at k w e h =
      let z : 0 + k ≡ k = omega arith in
      mark_at bits 0 m.wires k w e ∙ ap (λ n. Some (stays bits n w)) z ∙ ap Some h

  named_stays : (b : WireBit) → In b bits → Stays b
  named_stays b i =
      let w = some_at m.wires b.wire (named_within m ready.within b i) in
      let named : names_wire bits b.wire ≡ true = any_in (λ (c : WireBit). c.wire == b.wire) bits b i (eq-eqb b.wire b.wire refl) in
      record { of = w.0; there = w.1; mark = stays_at b.wire w.0 w.1 (or_third (is_port w.0.role) (is_kept w.0.attributes) (names_wire bits b.wire) named) }
    where
      or_third : (x y z : Bool) → z ≡ true → (x || (y || z)) ≡ true
      or_third true y z e = refl
      or_third false true z e = refl
      or_third false false z e = e

  -- it has the same wire at the new place
  same_wire : (b : WireBit) → Stays b → slice_get after.wires (new_place marks b.wire) ≡ slice_get m.wires b.wire
  same_wire b h = place_at marks m.wires b.wire h.of h.mark h.there ∙ sym h.there

  keeps : (p : Path) (s : SigBit) → ((b : WireBit) → s ≡ OnWire b → In b bits) → (point p after.wires (moved_bit marks s) ≡ point p m.wires s) × (start_of after.wires m.processes (moved_bit marks s) ≡ start_of m.wires m.processes s)
  keeps p (Fixed c) h = (refl, refl)
  keeps p (OnWire b) h =
      let same = same_wire b (named_stays b (h b refl)) in (
        ap (λ o. At (record { path = p; spot = OfWire (name_or_empty o) b.at })) same,
        plain_start after.wires m.processes (record { wire = new_place marks b.wire; at = b.at }) fine.processes
            ∙ ap (λ o. seen_of (slice_index_or (init_bits o) b.at X)) same
            ∙ sym (plain_start m.wires m.processes b fine.processes),
      )

  cell_named : (c : Cell) → In c m.cells → (b : WireBit) → In b (cell_bits c) → In b bits
  cell_named c i b j = In-left b (flat_map cell_bits m.cells) (flat_map link_bits m.links) (in_flat cell_bits m.cells c b i j)

  link_named : (l : Link) → In l m.links → (b : WireBit) → In b (link_bits l) → In b bits
  link_named l i b j = In-right b (flat_map cell_bits m.cells) (flat_map link_bits m.links) (in_flat link_bits m.links l b i j)

  left_named : (l : Link) → In l m.links → (b : WireBit) → In (OnWire b) l.left → In b bits
  left_named l i b j = link_named l i b (In-left b (wire_bits l.left) (wire_bits l.right) (has_signal l.left b j))

  right_named : (l : Link) → In l m.links → (b : WireBit) → In (OnWire b) l.right → In b bits
  right_named l i b j = link_named l i b (In-right b (wire_bits l.left) (wire_bits l.right) (has_signal l.right b j))

  -- the rows are the same
  rows_same : (over : flat.Ports) (p : Path) → rows_of over p after ≡ rows_of over p m
  rows_same over p =
      let cells = cells_stay marks p m.wires after.wires (start_of m.wires m.processes) (start_of after.wires m.processes) over m.cells (λ c i s h. keeps p s (λ b e. cell_named c i b (h b e))) in
      let links = links_stay marks p m.wires after.wires (start_of m.wires m.processes) (start_of after.wires m.processes) m.links (λ l i. (λ s j. keeps p s (λ b e. left_named l i b (subst (λ z. In z l.left) e j)), λ s j. keeps p s (λ b e. right_named l i b (subst (λ z. In z l.right) e j)))) in
      let words = memories_move marks p m.wires after.wires (start_of m.wires m.processes) (start_of after.wires m.processes) m.cells (λ c i name. signal_keeps marks p m.wires after.wires (start_of m.wires m.processes) (start_of after.wires m.processes) c (λ s h. keeps p s (λ b e. cell_named c i b (h b e))) (pin_text name)) m.memories in
      let plain : plain_rows p after ≡ plain_rows p m = plain_links p after fine.processes ∙ (λ i. links i ++ words i) ∙ sym (plain_links p m fine.processes) in
      λ i. cells i ++ plain i

  ports_same : ports_of after.wires ≡ ports_of m.wires
  ports_same = ap (λ ws. map line_of (in_number_order ws)) (kept_ports marks m.wires (gone_inner bits 0 m.wires))

  after_driven : (over : flat.Ports) → IsWellDriven over m → IsWellDriven over after
  after_driven over h = record {
    inputs = λ p. subst (λ lines. Distinct (places (role_points Input p lines))) (sym ports_same) (h.inputs p);
    rows = λ p. subst (λ rows. Distinct (places_of rows)) (sym (rows_same over p)) (h.rows p);
    apart = λ p x i here n j. h.apart p x (subst (In x) (rows_same over p) i) here n (subst (In n) ports_same j);
    instances = subst (λ frames. Distinct (map (λ (f : Frame). f.name) frames)) (sym (kinds_stay marks m.cells)) h.instances;
  }

  after_refines : (over : flat.Ports) → RefinesOver m after over
  after_refines over = lifted m after over (record {
    id = refl;
    ports_same = sym ports_same;
    children = sym (kinds_stay marks m.cells);
    rows = λ p t w s before d i. s.met d (subst (In d) (sym (rows_same over p)) i);
  })

  -- bits of wires that stay are told apart as before
  same_test : (b c : WireBit) → slice_get marks b.wire ≡ Some true → slice_get marks c.wire ≡ Some true → same_bit (move_wire marks c) (move_wire marks b) ≡ same_bit c b
  same_test b c e f = ap (λ t. t && (c.at == b.at)) (by (c.wire == b.wire) refl)
    where
      by : (t : Bool) → (c.wire == b.wire) ≡ t → (new_place marks c.wire == new_place marks b.wire) ≡ (c.wire == b.wire)
      by true g =
          let same : c.wire ≡ b.wire = eqb-true c.wire b.wire g in
          eq-eqb (new_place marks c.wire) (new_place marks b.wire) (ap (new_place marks) same) ∙ sym g
      by false g = other (new_place marks c.wire == new_place marks b.wire) refl ∙ sym g
        where
          other : (t : Bool) → (new_place marks c.wire == new_place marks b.wire) ≡ t → (new_place marks c.wire == new_place marks b.wire) ≡ false
          other false h = h
          other true h =
              let same : c.wire ≡ b.wire = place_one marks c.wire b.wire f e (eqb-true (new_place marks c.wire) (new_place marks b.wire) h) in
              let no : true ≡ false = sym (eq-eqb c.wire b.wire same) ∙ g in
              absurd (cc)

  count_moves : (b : WireBit) (xs : List WireBit) → slice_get marks b.wire ≡ Some true → ((c : WireBit) → In c xs → slice_get marks c.wire ≡ Some true) → count (move_wire marks b) (map (move_wire marks) xs) ≡ count b xs
  count_moves b [] e h = refl
  count_moves b (c ∷ xs) e h =
      let here = same_test b c e (h c (inl refl)) in
      let later = count_moves b xs e (λ d j. h d (inr j)) in
      λ i. cond (here i) 1 0 + later i

  driven_named : (b : WireBit) → In b (cells_bits ports m.cells ++ links_bits m.links) → slice_get marks b.wire ≡ Some true
  driven_named b i =
      let named : In b bits =
      ⊎_elim
      (λ l. let c = flat_in (λ (c : Cell). pin_bits (cell_type ports c.kind_name) c.pins) m.cells b l in
      cell_named c.0 c.1 b (pins_have (cell_type ports c.0.kind_name) c.0.pins b c.2))
      (λ r. let l = flat_in (λ (l : Link). wire_bits l.left) m.links b r in
      link_named l.0 l.1 b (In-left b (wire_bits l.0.left) (wire_bits l.0.right) l.2))
      (In-cases b (cells_bits ports m.cells) (links_bits m.links) i)
      in
      (named_stays b named).mark

  even : Each IsEven after.links
  even l i =
      let k = In-mapped (moved_link marks) l m.links i in
      subst IsEven (sym k.2) (moved_even marks k.0 (own_links ports m ready k.0 k.1))

  moved_in : (signal : List SigBit) → ((b : WireBit) → In (OnWire b) signal → In b bits) → SigIn (length after.wires) (map (moved_bit marks) signal)
  moved_in signal h x i =
      let k = In-mapped (moved_bit marks) x signal i in
      subst (BitIn (length after.wires)) (sym k.2) (by k.0 k.1)
    where
      short : (ws : List Wire) (k : ℕ) (w : Wire) → slice_get ws k ≡ Some w → k < length ws
      short [] k w e = absurd (cc)
      short (v ∷ ws) zero w e = omega arith
      short (v ∷ ws) (suc k) w e = omega (arith, short ws k w e)

      by : (s : SigBit) → In s signal → BitIn (length after.wires) (moved_bit marks s)
      by (Fixed c) j = tt
      by (OnWire b) j =
          let h' = named_stays b (h b j) in
          short after.wires (new_place marks b.wire) h'.of (place_at marks m.wires b.wire h'.of h'.mark h'.there)

  after_within : IsWithin after
  after_within = record {
    cells = λ c i pin j.
        let k = In-mapped (moved_cell marks) c m.cells i in
        let q = In-mapped (moved_pin marks) pin k.0.pins (subst (λ (z : Cell). In pin z.pins) k.2 j) in
        subst (λ (z : Pin). SigIn (length after.wires) z.sig) (sym q.2) (moved_in q.0.sig (λ b l. cell_named k.0 k.1 b (in_flat (λ (p : Pin). wire_bits p.sig) k.0.pins q.0 b q.1 (has_signal q.0.sig b l))));
    links = λ l i.
        let k = In-mapped (moved_link marks) l m.links i in
        subst (LinkIn (length after.wires)) (sym k.2) (moved_in k.0.left (left_named k.0 k.1), moved_in k.0.right (right_named k.0 k.1));
    processes = λ p i. absurd (subst (In p) fine.processes i);
  }

  -- each bit of a wire that stays is driven as often as before, and no other one is driven
  after_once : (b : WireBit) → drive_count (drives_of ports after) b ≤ 1
  after_once b = by (slice_get after.wires b.wire) refl
    where
      all : drive_count (drives_of ports after) b ≡ count b (bits_of (port_drives 0 after.wires)) + count b (cells_bits ports after.cells ++ links_bits after.links)
      all = driven_count ports after fine.processes even b

      ports_at : (ws : List Wire) (k : ℕ) (w : Wire) → slice_get ws k ≡ Some w → count (record { wire = k; at = b.at }) (bits_of (port_drives 0 ws)) ≡ own_count b.at w
      ports_at ws k w e =
          let z : 0 + k ≡ k = omega arith in
          subst (λ n. count (record { wire = n; at = b.at }) (bits_of (port_drives 0 ws)) ≡ own_count b.at w) z (port_count b.at 0 ws k w e)

      by : (o : Option Wire) → slice_get after.wires b.wire ≡ o → drive_count (drives_of ports after) b ≤ 1
      by None e =
          let n : ℕ = length after.wires in
          let past : n ≤ b.wire = none_past after.wires b.wire e in
          let p : count b (bits_of (port_drives 0 after.wires)) ≡ 0 = none_counted n (bits_of (port_drives 0 after.wires)) (ports_under n 0 after.wires (omega arith)) b past in
          let c : count b (cells_bits ports after.cells) ≡ 0 = none_counted n (cells_bits ports after.cells) (cells_under n ports after.cells after_within.cells) b past in
          let l : count b (links_bits after.links) ≡ 0 = none_counted n (links_bits after.links) (links_under n after.links after_within.links) b past in
          omega (arith, all, count_more b (cells_bits ports after.cells) (links_bits after.links), p, c, l)
      by (Some w) e =
          let k = marked_at marks m.wires b.wire w e in
          let old : WireBit = record { wire = k.0; at = b.at } in
          let is : move_wire marks old ≡ b = λ i. record { wire = k.3 i; at = b.at } in
          let body : count b (cells_bits ports after.cells ++ links_bits after.links) ≡ count old (cells_bits ports m.cells ++ links_bits m.links) = ap (λ z. count z (cells_bits ports after.cells ++ links_bits after.links)) (sym is) ∙ ap (count (move_wire marks old)) ((λ i. cells_move marks ports m.cells i ++ links_move marks m.links i) ∙ sym (map-append (move_wire marks) (cells_bits ports m.cells) (links_bits m.links))) ∙ count_moves old (cells_bits ports m.cells ++ links_bits m.links) k.1 driven_named in
          omega (arith, ready.once old, all, body, ports_at after.wires b.wire w e, ports_at m.wires k.0 w k.2, driven_count ports m fine.processes (own_links ports m ready) old)

  after_ready : IsReady ports after
  after_ready = record {
    faultless = all_none (fewer_wires m.id [] marks m.wires (gone_inner bits 0 m.wires) none.wires) none.stores (none_there ports after [] after.cells sound accesses) processes (no_link_faults m.id 1 after.links even) (none_twice m.id (drives_of ports after) 0 after.wires (λ j w e at lt. after_once (record { wire = 0 + j; at = at })));
    named = subst Distinct (sym (marked_map (λ (w : Wire). w.name) marks m.wires)) (marked_distinct marks (map (λ (w : Wire). w.name) m.wires) ready.named);
    within = after_within;
    once = after_once;
  }
    where
      none : HasNoFaults without_processes ports m
      none = no_faults without_processes ports m ready.faultless

      sound : Each (IsSound ports) after.cells
      sound c i =
          let k = In-mapped (moved_cell marks) c m.cells i in
          subst (IsSound ports) (sym k.2) (moved_sound marks ports k.0 (own_cells ports m ready k.0 k.1))

      accesses : AreAccesses ports after [] after.cells
      accesses = moved_accesses marks ports m after refl [] [] (λ name. refl) m.cells (own_accesses ports m ready)

      processes : process_faults without_processes ports after [] m.processes ≡ []
      processes = ap (process_faults without_processes ports after []) fine.processes

pub trimmed_pass : (table : PortTable) (m : Module) → IsReady (types.table_ports table.modules) m → IsPass table m (trimmed m)
trimmed_pass table m ready = record {
  id = refl;
  ports = sym (ports_same (types.table_ports table.modules) m ready);
  instances = sym (kinds_stay (wire_marks (named_bits m) 0 m.wires) m.cells);
  driven = λ over agree h. after_driven (types.table_ports table.modules) m ready over h;
  ready = λ h. after_ready (types.table_ports table.modules) m h;
  refines = after_refines (types.table_ports table.modules) m ready (tree.table_ports table);
}
