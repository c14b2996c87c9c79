-- A module whose first instance is replaced: its rows and those of the instance are rows after that, once their bits move.
use Rattle.std.proofs.Common.{◌≡◌, ℕ, ◌+◌, ◌<◌, Bool, true, false, ◌&&◌, List, [], ◌∷◌, ◌++◌, length, map, Some, None, ◌⊎◌, inl, inr, ⊎_elim, refl, sym, ◌∙◌, ap, subst}
use Rattle.std.specs.Prelude.{filter, flat_map, option_map, slice_get, slice_index_or}
use Rattle.std.specs.Str.{bytes_eq}
use Rattle.std.proofs.lemmas.List.Elements.{filter-append}
use Rattle.std.proofs.lemmas.List.{append-nil}
use Rattle.rtl_bits.specs.declared.bit.Bit.TheVariants.{X}
use Rattle.rtl_bits.specs.Tables.{seen_of}
use Rattle.rtl_sig.specs.declared.sig.SigBit.{SigBit}
use Rattle.rtl_sig.specs.declared.sig.SigBit.TheVariants.{Fixed, Wire as OnWire}
use Rattle.cell_types.specs.declared.kind.CellKind.TheVariants.{Memory}
use Rattle.cell_types.specs.declared.memory.MemoryKind.{MemoryKind}
use Rattle.cell_types.specs.Given.{value_in}
use Rattle.rtl_ir.specs.declared.cell.Cell.{Cell}
use Rattle.rtl_ir.specs.declared.module.Link.{Link}
use Rattle.rtl_ir.specs.declared.module.Module.{Module}
use Rattle.rtl_ir.specs.declared.ports.PortLine.{PortLine}
use Rattle.rtl_ir.specs.declared.store.Store.{Store}
use Rattle.rtl_ir.specs.declared.wire.Wire.{Wire}
use Rattle.rtl_ir.specs.Build.{Building}
use Rattle.rtl_ir.specs.Flat.Cell.{Ports, cell_kind, cell_rows, cells_rows, instance_rows, instances}
use Rattle.rtl_ir.specs.Flat.Driver.{Driven}
use Rattle.rtl_ir.specs.Flat.Link.{link_rows}
use Rattle.rtl_ir.specs.Flat.Memory.{is_init_kind, is_read_kind, memories_rows, memory_rows}
use Rattle.rtl_ir.specs.Flat.Place.{Frame, frame, frame_same, OfWire, OfWord, Path, Spot, wire_place, word_place}
use Rattle.rtl_ir.specs.Flat.Point.{At, name_or_empty, point, points}
use Rattle.rtl_ir.specs.Flat.Rows.{rows_of}
use Rattle.rtl_ir.specs.Flat.Start.{init_bits, start_of}
use Rattle.rtl_ir.specs.Parameters.{given_params, memory_name, signal_at}
use Rattle.rtl_ir.specs.Ports.{ports_of}
use Rattle.rtl_ir.specs.Signals.{constant_of}
use Rattle.rtl_ir.specs.WritePorts.{is_of_memory, is_write_cell}
use Rattle.net_model.specs.Lists.{Distinct, In}
use Rattle.net_model.specs.Within.{BitIn, IsWithin}
use Rattle.net_model.proofs.Members.{apart_at, In-left, In-map, In-mapped, In-right, map-append}
use Rattle.pass_laws.proofs.Moving.{split}
use Rattle.flat_pass.specs.Copies.{Copying, copied_bit, copied_link, copied_params, renamed}
use Rattle.flat_pass.specs.Flat.{copy_name, dotted, links_of, place_of_wire, port_links, put_store, replaced, store_copies, with_cells}
use Rattle.flat_pass.proofs.Closed.{cell_copies, copying, replaced-body, stored, stores_copied, wire_copies, wired}
use Rattle.flat_pass.proofs.Moving.{Move, moved, moved_point, moved_word}
use Rattle.flat_pass.proofs.MovedRuns.{GoesInto}
use Rattle.flat_pass.proofs.Paths.{Melt, copied_frame, copied_spot, go, go_inside, go_outside, go_path, is_inside, is_of, other, outside, path_below, path_outside}
use Rattle.flat_pass.proofs.RowsMoved.{links_moved, points_moved, signal_in}
use Rattle.flat_pass.proofs.RowsMemories.{map_same}
use Rattle.flat_pass.proofs.RowsGo.{AreCopied, Carries, CellTo, MemoryTo, carried_link, cell_goes, cells_moved, flat_map-append, rows_bare, stores_moved, row_of_cells, row_of_links, rows_go}
use Rattle.flat_pass.proofs.Partners.{AreOf, CellCopied, CellNamed, IsOfKind, PairIn, Paired, StoreCopied, bytes_apart, cell_partner, cells_named_by, cells_paired, filter_paired, frame_names, get_after, instance_cell, instance_in, kind_same, memory_renamed, names_at, paired_back, paired_map, paired_names, pairs_in, pairs_named, partner, picked_none, picked_same, renamed_apart, shape_same, starts_at, store_name, stores_paired, values_copied, wire_name, wires_paired}
use Rattle.net_model.proofs.Swapping.{instances-append, rows-append}
use Rattle.flat_pass.proofs.Taking.{Split, rest_in, taken_cases, taken_filter, taken_in, taken_instances}
use Rattle.flat_pass.proofs.PortsGo.{links-append, place_found, ports_moved}
use Rattle.flat_pass.proofs.Melting.{IsCopied, are_copied, cell_stays, cells_stay, init_kind, instance_fails, link_stays, links_stay, memories_stay, memory_stays, read_kind, spot_at, stays, write_kind}

-- what is asked of a module here: signals on its own wires, no process, and cells of memories that it has
pub record IsPlain (m : Module) : Type 0 where
  pub within : IsWithin m
  pub processes : m.processes ≡ []
  pub cells : AreOf m.memories m.cells

-- its wires, its memories and its instances have names of their own
pub record HasNames (m : Module) : Type 0 where
  pub wires : Distinct (map wire_name m.wires)
  pub memories : Distinct (map store_name m.memories)
  pub instances : Distinct (frame_names m.cells)

copies_are : (instance : List ℕ) (ss : List Store) (b : Building) → map store_name (stores_copied instance ss b) ≡ store_copies instance ss b
copies_are instance [] b = refl
copies_are instance (s ∷ ss) b = ap (λ z. store_name s' ∷ z) (copies_are instance ss (put_store instance s b))
  where
    s' : Store
    s' = record s { name = copy_name b (dotted instance s.name) }

constant_goes : (first : ℕ) (s : SigBit) → constant_of (copied_bit first s) ≡ constant_of s
constant_goes first (Fixed b) = refl
constant_goes first (OnWire b) = refl

module _ (bb : Building) (f : Cell) (rest : List Cell) (n : Module) where
  -- the module without the instance
  abbrev pub around : Building
  around = with_cells rest bb

  abbrev pub wires_new : List Wire
  wires_new = wire_copies f.name n.wires around

  abbrev pub stores_new : List Store
  stores_new = stores_copied f.name n.memories (wired n f around)

  abbrev pub copying_new : Copying
  copying_new = copying n f around

  abbrev pub cells_new : List Cell
  cells_new = cell_copies copying_new n.cells (stored n f around)

  -- the module after the replacement
  abbrev pub after : Module
  after = record bb.body {
    wires = bb.body.wires ++ wires_new;
    memories = bb.body.memories ++ stores_new;
    cells = rest ++ cells_new;
    links = bb.body.links ++ links_of (length bb.body.wires) n f.pins;
  }

  pub after_is : (replaced n f around).body ≡ after
  after_is = replaced-body n f around

  -- what melts
  abbrev pub melt : Melt
  melt = record {
    id = bb.body.id;
    instance = frame f.name f.kind_name;
    wires = map wire_name n.wires;
    wire_copies = map wire_name wires_new;
    stores = map store_name n.memories;
    store_copies = map store_name stores_new;
    cells = frame_names n.cells;
    cell_copies = frame_names cells_new;
  }

  module _ (taken : Split f rest bb.body.cells) (body : IsPlain bb.body) (child : IsPlain n) (names : HasNames n) (own_names : Distinct (map store_name after.memories)) (body_frames : Distinct (frame_names bb.body.cells)) (apart : f.kind_name ≡ bb.body.id → ⊥) where
    new_wires : (at : ℕ) → at < length n.wires → renamed (map wire_name n.wires) (map wire_name wires_new) (name_or_empty (slice_get n.wires at)) ≡ name_or_empty (slice_get after.wires (length bb.body.wires + at))
    new_wires at h =
        names_at n.wires wires_new (wires_paired f.name n.wires around) names.wires at h
        ∙ ap name_or_empty (sym (get_after bb.body.wires wires_new at))

    -- memories
    pub new_stores : (s : Store) → In s n.memories → (t : Store) × In t stores_new × StoreCopied s t × (renamed (map store_name n.memories) (map store_name stores_new) s.name ≡ t.name)
    new_stores s i =
        partner StoreCopied store_name store_name n.memories stores_new (stores_paired f.name n.memories (wired n f around)) names.memories s i

    pub by_copying : (name : List ℕ) → renamed copying_new.memories copying_new.copies name ≡ renamed (map store_name n.memories) (map store_name stores_new) name
    by_copying name =
        ap (λ z. renamed (map store_name n.memories) z name) (sym (copies_are f.name n.memories (wired n f around)))

    parts : Distinct (map store_name bb.body.memories) × Distinct (map store_name stores_new) × ((x : List ℕ) → In x (map store_name bb.body.memories) → In x (map store_name stores_new) → ⊥)
    parts =
        split (map store_name bb.body.memories) (map store_name stores_new) (subst Distinct (map-append store_name bb.body.memories stores_new) own_names)

    pub not_both : (s t : Store) → In s bb.body.memories → In t stores_new → s.name ≡ t.name → ⊥
    not_both s t i j e =
        parts.2 s.name (In-map store_name s bb.body.memories i) (subst (λ z. In z (map store_name stores_new)) (sym e) (In-map store_name t stores_new j))

    pub new_apart : (s t : Store) → In s n.memories → In t n.memories → renamed copying_new.memories copying_new.copies s.name ≡ renamed copying_new.memories copying_new.copies t.name → s.name ≡ t.name
    new_apart s t i j e =
        renamed_apart (map store_name n.memories) (map store_name stores_new) (paired_names StoreCopied store_name store_name n.memories stores_new (stores_paired f.name n.memories (wired n f around))) parts.1 s.name t.name (In-map store_name s n.memories i) (In-map store_name t n.memories j) (sym (by_copying s.name) ∙ e ∙ by_copying t.name)

    copied_memory : (x y : Cell) (kind : MemoryKind) → CellCopied copying_new x y → cell_kind x ≡ Some (Memory kind) → memory_name y.params ≡ option_map (renamed copying_new.memories copying_new.copies) (memory_name x.params)
    copied_memory x y kind h e =
        ap memory_name (h.params ∙ ap (λ z. copied_params copying_new z x.params) e) ∙ memory_renamed copying_new x.params

    pub copied_names : (x y : Cell) (kind : MemoryKind) → CellCopied copying_new x y → cell_kind x ≡ Some (Memory kind) → (s t : Store) → renamed (map store_name n.memories) (map store_name stores_new) s.name ≡ t.name → memory_name x.params ≡ Some s.name → memory_name y.params ≡ Some t.name
    copied_names x y kind h e s t same named =
        copied_memory x y kind h e ∙ ap (option_map (renamed copying_new.memories copying_new.copies)) named ∙ ap Some (by_copying s.name ∙ same)

    -- copied cells are of copied memories
    pub new_of : AreOf stores_new cells_new
    new_of y i kind e =
        let x = paired_back (CellCopied copying_new) n.cells cells_new (cells_paired copying_new n.cells (stored n f around)) y i in
        let e' : cell_kind x.0 ≡ Some (Memory kind) = sym (kind_same x.0 y x.2.kind) ∙ e in
        let t = child.cells x.0 x.1 kind e' in
        let t' = new_stores t.0 t.1 in
        (t'.0, t'.1, copied_names x.0 y kind x.2 e' t.0 t'.0 t'.3 t.2)

    module _ (test : Cell → Bool) (h : IsOfKind test) where
      abbrev of_name : List ℕ → Cell → Bool
      of_name name c = test c && is_of_memory name c

      own_filter : (s : Store) → In s bb.body.memories → filter (of_name s.name) after.cells ≡ filter (of_name s.name) bb.body.cells
      own_filter s i =
          filter-append (of_name s.name) rest cells_new
          ∙ ap (λ z. filter (of_name s.name) rest ++ z) (picked_none test h stores_new s.name (λ t j e. not_both s t i j e) cells_new new_of)
          ∙ append-nil (filter (of_name s.name) rest)
          ∙ sym (taken_filter f rest bb.body.cells taken (of_name s.name) (ap (λ t. t && is_of_memory s.name f) (instance_fails test h f taken.kind)))

      child_filter : (t : Store) → In t stores_new → filter (of_name t.name) after.cells ≡ filter (of_name t.name) cells_new
      child_filter t i =
          filter-append (of_name t.name) rest cells_new
          ∙ ap (λ z. z ++ filter (of_name t.name) cells_new) (picked_none test h bb.body.memories t.name (λ s j e. not_both s t j i (sym e)) rest (λ x j. body.cells x (rest_in f rest bb.body.cells taken x j)))

    -- the frames of the other instances
    pub others_apart : (x : Cell) → In x rest → cell_kind x ≡ None → frame_same (frame x.name x.kind_name) (frame f.name f.kind_name) ≡ false
    others_apart x i e =
        let frames : Distinct (f.name ∷ frame_names rest) = subst (λ z. Distinct (map (λ (g : Frame). g.name) z)) (taken_instances f rest bb.body.cells taken) body_frames in
        ap (λ t. t && bytes_eq x.kind_name f.kind_name) (bytes_apart x.name f.name (λ s. apart_at f.name (frame_names rest) frames.0 x.name (In-map (λ (g : Frame). g.name) (frame x.name x.kind_name) (instances rest) (instance_in rest x i e)) (sym s)))

    child_outside : (p : Path) → is_of melt (frame f.name f.kind_name ∷ p) ≡ false
    child_outside p = bytes_apart f.kind_name bb.body.id apart

    -- bits of the instance sink into the module
    pub record Sinks (sink : Move) (p there : Path) : Type 0 where
      pub own : (s : Spot) → sink (spot_at p s) ≡ spot_at there s
      pub other : (g : Frame) → frame_same g (frame f.name f.kind_name) ≡ false → (s : Spot) → sink (spot_at (g ∷ p) s) ≡ spot_at (g ∷ there) s
      pub inside : (s : Spot) → sink (spot_at (frame f.name f.kind_name ∷ p) s) ≡ spot_at there (copied_spot melt s)
      pub deeper : (g : Frame) (s : Spot) → sink (spot_at (g ∷ frame f.name f.kind_name ∷ p) s) ≡ spot_at (copied_frame melt g ∷ there) s

    module _ (ports : Ports) (known : ports f.kind_name ≡ ports_of n.wires) (sink : Move) (p there : Path) (sinks : Sinks sink p there) where
      -- its own rows
      abbrev own_carries : Carries sink bb.body after p there (λ s. s)
      own_carries = stays sink bb.body after wires_new refl p there sinks.own

      outer_goes : (name : List ℕ) → moved_word sink (points p bb.body.wires (signal_at f.pins name)) ≡ points there after.wires (signal_at f.pins name)
      outer_goes name =
          points_moved sink (length bb.body.wires) bb.body.wires after.wires p there (λ s. s) own_carries.points (signal_at f.pins name) (signal_in sink (length bb.body.wires) bb.body.wires after.wires p there (λ s. s) own_carries.points f.pins name (body.within.cells f (taken_in f rest bb.body.cells taken)))
          ∙ ap (points there after.wires) (map_same (signal_at f.pins name))

      inner_goes : (name : List ℕ) (at : ℕ) → In name (map (λ (w : Wire). w.name) n.wires) → sink (wire_place (frame f.name f.kind_name ∷ p) name at) ≡ wire_place there (name_or_empty (slice_get after.wires (length bb.body.wires + place_of_wire n.wires name))) at
      inner_goes name at i =
          let w = In-mapped (λ (z : Wire). z.name) name n.wires i in
          let k = place_found n.wires w.0 w.1 in
          let here : name_or_empty (slice_get n.wires (place_of_wire n.wires name)) ≡ name = ap (λ z. name_or_empty (slice_get n.wires (place_of_wire n.wires z))) w.2 ∙ k.1 ∙ sym w.2 in
          let inside : place_of_wire n.wires name < length n.wires = subst (λ z. place_of_wire n.wires z < length n.wires) (sym w.2) k.0 in
          sinks.inside (OfWire name at)
          ∙ ap (λ z. wire_place there z at) (ap (renamed (map wire_name n.wires) (map wire_name wires_new)) (sym here) ∙ new_wires (place_of_wire n.wires name) inside)

      known_port : (m : PortLine) → In m (ports f.kind_name) → In m (ports_of n.wires)
      known_port m j = subst (In m) known j

      -- the joins of the instance are the connections that come with it
      instance_moved : map (moved sink) (instance_rows p bb.body.wires f.pins (frame f.name f.kind_name) (ports f.kind_name)) ≡ link_rows there after.wires (flat_map (port_links (length bb.body.wires) n.wires f.pins) (ports_of n.wires))
      instance_moved =
          ports_moved sink bb.body.wires after.wires p there (frame f.name f.kind_name) n.wires (length bb.body.wires) f.pins outer_goes inner_goes (ports f.kind_name) known_port
          ∙ ap (λ z. link_rows there after.wires (flat_map (port_links (length bb.body.wires) n.wires f.pins) z)) known

      links_are : link_rows there after.wires after.links ≡ link_rows there after.wires bb.body.links ++ (link_rows there after.wires (map (copied_link (length bb.body.wires)) n.links) ++ link_rows there after.wires (flat_map (port_links (length bb.body.wires) n.wires f.pins) (ports_of n.wires)))
      links_are =
          links-append there after.wires bb.body.links (links_of (length bb.body.wires) n f.pins)
          ∙ ap (λ z. link_rows there after.wires bb.body.links ++ z) (links-append there after.wires (map (copied_link (length bb.body.wires)) n.links) (flat_map (port_links (length bb.body.wires) n.wires f.pins) (ports_of n.wires)))

      instance_goes : (y : Driven) → In y (cell_rows (start_of bb.body.wires []) ports p bb.body.wires f (cell_kind f)) → In (moved sink y) (rows_of ports there after)
      instance_goes y i =
          let new : List Driven = link_rows there after.wires (flat_map (port_links (length bb.body.wires) n.wires f.pins) (ports_of n.wires)) in
          let copied : List Driven = link_rows there after.wires (map (copied_link (length bb.body.wires)) n.links) in
          let j : In y (instance_rows p bb.body.wires f.pins (frame f.name f.kind_name) (ports f.kind_name)) = subst (λ o. In y (cell_rows (start_of bb.body.wires []) ports p bb.body.wires f o)) taken.kind i in
          row_of_links ports there after body.processes (moved sink y) (subst (In (moved sink y)) (sym links_are) (In-right (moved sink y) (link_rows there after.wires bb.body.links) (copied ++ new) (In-right (moved sink y) copied new (subst (In (moved sink y)) instance_moved (In-map (moved sink) y _ j)))))

      own_cells : (x : Cell) → In x bb.body.cells → (y : Driven) → In y (cell_rows (start_of bb.body.wires []) ports p bb.body.wires x (cell_kind x)) → In (moved sink y) (rows_of ports there after)
      own_cells x i y j =
          ⊎_elim
          (λ e. instance_goes y (subst (λ z. In y (cell_rows (start_of bb.body.wires []) ports p bb.body.wires z (cell_kind z))) e j))
          (λ r. row_of_cells ports there after body.processes (moved sink y) (cell_goes sink bb.body after p there (λ s. s) own_carries body.within ports ports x x (body.within.cells x i) (λ e. refl) (cell_stays sink p there x (λ e. sinks.other (frame x.name x.kind_name) (others_apart x r e))) (In-left x rest cells_new r) y j))
          (taken_cases f rest bb.body.cells taken x i)

      own_links : (l : Link) → In l bb.body.links → In (carried_link (λ s. s) l) after.links
      own_links l i =
          subst (λ z. In z after.links) (link_stays l) (In-left l bb.body.links (links_of (length bb.body.wires) n f.pins) i)

      own_memory : (s : Store) → In s bb.body.memories → MemoryTo sink bb.body after p there (λ z. z) own_carries body.within s s
      own_memory s i =
          memory_stays sink bb.body after p there own_carries body.within s (λ address at. sinks.own (OfWord s.name address at), λ test h. own_filter test h s i)

      pub own_goes : (y : Driven) → In y (rows_of ports p bb.body) → GoesInto sink (rows_of ports there after) y
      own_goes y i =
          rows_go sink bb.body after p there (λ s. s) own_carries body.within ports ports body.processes body.processes own_cells own_links (λ s j. (s, In-left s bb.body.memories stores_new j, own_memory s j)) y i

      -- the rows of the instance
      abbrev within_p : Path
      within_p = frame f.name f.kind_name ∷ p

      abbrev new_bit : SigBit → SigBit
      new_bit = copied_bit (length bb.body.wires)

      new_point : (s : SigBit) → BitIn (length n.wires) s → moved_point sink (point within_p n.wires s) ≡ point there after.wires (new_bit s)
      new_point (Fixed b) i = refl
      new_point (OnWire b) i =
          ap At (sinks.inside (OfWire (name_or_empty (slice_get n.wires b.wire)) b.at) ∙ ap (λ z. wire_place there z b.at) (new_wires b.wire i))

      new_start : (s : SigBit) → BitIn (length n.wires) s → start_of n.wires [] s ≡ start_of after.wires [] (new_bit s)
      new_start (Fixed b) i = refl
      new_start (OnWire b) i =
          ap (λ z. seen_of (slice_index_or z b.at X)) (starts_at n.wires wires_new (wires_paired f.name n.wires around) b.wire i ∙ ap init_bits (sym (get_after bb.body.wires wires_new b.wire)))

      new_carries : Carries sink n after within_p there new_bit
      new_carries = record { points = new_point; fixed = λ b. refl; constants = constant_goes (length bb.body.wires); starts = new_start }

      to_copy : (x y : Cell) → CellCopied copying_new x y → (cell_kind x ≡ None → renamed (frame_names n.cells) (frame_names cells_new) x.name ≡ y.name) → CellTo sink within_p there new_bit x y
      to_copy x y h named = record {
        kind = h.kind;
        pins = h.pins;
        shape = shape_same copying_new x y h;
        frames = λ e name at. sinks.deeper (frame x.name x.kind_name) (OfWire name at) ∙ (λ j. wire_place (frame (named e j) (sym h.kind j) ∷ there) name at);
      }

      new_cells : (x : Cell) → In x n.cells → (y : Driven) → In y (cell_rows (start_of n.wires []) ports within_p n.wires x (cell_kind x)) → In (moved sink y) (rows_of ports there after)
      new_cells x i y j =
          let k = cell_partner copying_new n.cells cells_new (cells_paired copying_new n.cells (stored n f around)) names.instances x i in
          row_of_cells ports there after body.processes (moved sink y) (cell_goes sink n after within_p there new_bit new_carries child.within ports ports x k.0 (child.within.cells x i) (λ e. refl) (to_copy x k.0 k.2 k.3) (In-right k.0 rest cells_new k.1) y j)

      new_links : (l : Link) → In l n.links → In (carried_link new_bit l) after.links
      new_links l i =
          In-right (copied_link (length bb.body.wires) l) bb.body.links (links_of (length bb.body.wires) n f.pins) (In-left (copied_link (length bb.body.wires) l) (map (copied_link (length bb.body.wires)) n.links) (flat_map (port_links (length bb.body.wires) n.wires f.pins) (ports_of n.wires)) (In-map (copied_link (length bb.body.wires)) l n.links i))

      is_copy : (x y : Cell) → In x n.cells → CellCopied copying_new x y → IsCopied sink n after within_p there new_bit new_carries child.within x y
      is_copy x y i h = record {
        kind = h.kind;
        pins = h.pins;
        values = λ name e. ap (λ z. value_in (given_params z) name) h.params ∙ values_copied copying_new (cell_kind x) name e x.params;
        within = child.within.cells x i;
      }

      new_picks : (test : Cell → Bool) (h : IsOfKind test) (s t : Store) → In s n.memories → In t stores_new → renamed copying_new.memories copying_new.copies s.name ≡ t.name → AreCopied sink n after within_p there new_bit new_carries child.within (filter (λ (x : Cell). test x && is_of_memory s.name x) n.cells) (filter (λ (x : Cell). test x && is_of_memory t.name x) after.cells)
      new_picks test h s t i j e =
          let same : (x y : Cell) → In x n.cells → CellCopied copying_new x y → (test y && is_of_memory t.name y) ≡ (test x && is_of_memory s.name x) = λ x y k g. ap (λ z. test y && is_of_memory z y) (sym e) ∙ picked_same test h copying_new n.memories new_apart s i n.cells child.cells x y k g in
          let paired = filter_paired (CellCopied copying_new) (IsCopied sink n after within_p there new_bit new_carries child.within) (λ (x : Cell). test x && is_of_memory s.name x) (λ (x : Cell). test x && is_of_memory t.name x) n.cells cells_new (cells_paired copying_new n.cells (stored n f around)) same is_copy in
          subst (AreCopied sink n after within_p there new_bit new_carries child.within (filter (λ (x : Cell). test x && is_of_memory s.name x) n.cells)) (sym (child_filter test h t j)) (are_copied sink n after within_p there new_bit new_carries child.within (filter (λ (x : Cell). test x && is_of_memory s.name x) n.cells) (filter (λ (x : Cell). test x && is_of_memory t.name x) cells_new) paired)

      new_memory : (s t : Store) → In s n.memories → In t stores_new → StoreCopied s t → renamed (map store_name n.memories) (map store_name stores_new) s.name ≡ t.name → MemoryTo sink n after within_p there new_bit new_carries child.within s t
      new_memory s t i j same e =
          let named : renamed copying_new.memories copying_new.copies s.name ≡ t.name = by_copying s.name ∙ e in
          record {
            same = same;
            words = λ address at. sinks.inside (OfWord s.name address at) ∙ ap (λ z. word_place there z address at) e;
            writes = new_picks (λ (x : Cell). is_write_cell x.kind_name) write_kind s t i j named;
            inits = new_picks (λ (x : Cell). is_init_kind (cell_kind x)) init_kind s t i j named;
            reads = new_picks (λ (x : Cell). is_read_kind (cell_kind x)) read_kind s t i j named;
          }

      new_memories : (s : Store) → In s n.memories → (t : Store) × In t after.memories × MemoryTo sink n after within_p there new_bit new_carries child.within s t
      new_memories s i =
          let t = new_stores s i in
          (t.0, In-right t.0 bb.body.memories stores_new t.1, new_memory s t.0 i t.1 t.2 t.3)

      pub inner_rows_go : (y : Driven) → In y (rows_of ports within_p n) → GoesInto sink (rows_of ports there after) y
      inner_rows_go y i =
          rows_go sink n after within_p there new_bit new_carries child.within ports ports child.processes body.processes new_cells new_links new_memories y i

      -- all rows after the replacement, part by part
      rest_moved : map (moved sink) (cells_rows (start_of bb.body.wires []) ports p bb.body.wires rest) ≡ cells_rows (start_of after.wires []) ports there after.wires rest
      rest_moved =
          cells_moved sink bb.body after p there (λ s. s) own_carries body.within ports ports rest rest (cells_stay sink p there rest (λ x i e. sinks.other (frame x.name x.kind_name) (others_apart x i e))) (λ x i. body.within.cells x (rest_in f rest bb.body.cells taken x i)) (λ x i e. refl)

      abbrev new_frame : List ℕ → List ℕ
      new_frame = renamed (frame_names n.cells) (frame_names cells_new)

      cells_to : Paired (CellTo sink within_p there new_bit) n.cells cells_new
      cells_to =
          paired_map (CellNamed copying_new new_frame) (CellTo sink within_p there new_bit) (λ x y h. to_copy x y h.0 h.1) n.cells cells_new (cells_named_by copying_new new_frame n.cells cells_new (cells_paired copying_new n.cells (stored n f around)) names.instances (λ x i e. refl))

      new_moved : map (moved sink) (cells_rows (start_of n.wires []) ports within_p n.wires n.cells) ≡ cells_rows (start_of after.wires []) ports there after.wires cells_new
      new_moved =
          cells_moved sink n after within_p there new_bit new_carries child.within ports ports n.cells cells_new cells_to child.within.cells (λ x i e. refl)

      own_links_moved : map (moved sink) (link_rows p bb.body.wires bb.body.links) ≡ link_rows there after.wires bb.body.links
      own_links_moved =
          links_moved sink (length bb.body.wires) bb.body.wires after.wires p there (λ s. s) own_carries.points bb.body.links body.within.links
          ∙ ap (link_rows there after.wires) (sym (links_stay bb.body.links))

      new_links_moved : map (moved sink) (link_rows within_p n.wires n.links) ≡ link_rows there after.wires (map (copied_link (length bb.body.wires)) n.links)
      new_links_moved =
          links_moved sink (length n.wires) n.wires after.wires within_p there new_bit new_carries.points n.links child.within.links

      own_stores_moved : map (moved sink) (memories_rows p bb.body.wires bb.body.cells [] bb.body.memories) ≡ memories_rows there after.wires after.cells [] bb.body.memories
      own_stores_moved =
          stores_moved sink bb.body after p there (λ s. s) own_carries body.within ports ports bb.body.memories bb.body.memories (memories_stay sink bb.body after p there own_carries body.within bb.body.memories (λ s i. (λ address at. sinks.own (OfWord s.name address at), λ test h. own_filter test h s i)))

      abbrev new_store : List ℕ → List ℕ
      new_store = renamed (map store_name n.memories) (map store_name stores_new)

      stores_to : Paired (MemoryTo sink n after within_p there new_bit new_carries child.within) n.memories stores_new
      stores_to =
          paired_map (λ (s t : Store). PairIn StoreCopied n.memories stores_new s t × (new_store s.name ≡ t.name)) (MemoryTo sink n after within_p there new_bit new_carries child.within) (λ s t h. new_memory s t h.0.0 h.0.1 h.0.2 h.1) n.memories stores_new (pairs_named (PairIn StoreCopied n.memories stores_new) store_name store_name new_store n.memories stores_new (pairs_in StoreCopied n.memories stores_new (stores_paired f.name n.memories (wired n f around))) names.memories (λ s i. refl))

      new_stores_moved : map (moved sink) (memories_rows within_p n.wires n.cells [] n.memories) ≡ memories_rows there after.wires after.cells [] stores_new
      new_stores_moved =
          stores_moved sink n after within_p there new_bit new_carries child.within ports ports n.memories stores_new stores_to

      abbrev go_rows : List Driven → List Driven
      go_rows = map (moved sink)

      abbrev joined : List Driven
      joined = instance_rows p bb.body.wires f.pins (frame f.name f.kind_name) (ports f.kind_name)

      pub rows_after : rows_of ports there after
          ≡ (go_rows (cells_rows (start_of bb.body.wires []) ports p bb.body.wires rest) ++ go_rows (cells_rows (start_of n.wires []) ports within_p n.wires n.cells))
          ++ ((go_rows (link_rows p bb.body.wires bb.body.links) ++ (go_rows (link_rows within_p n.wires n.links) ++ go_rows joined))
          ++ (go_rows (memories_rows p bb.body.wires bb.body.cells [] bb.body.memories) ++ go_rows (memories_rows within_p n.wires n.cells [] n.memories)))
      rows_after =
          rows_bare ports there after body.processes
          ∙ (λ i. cells i ++ ((links_are i) ++ memories i))
          ∙ (λ i. (sym rest_moved i ++ sym new_moved i) ++ ((sym own_links_moved i ++ (sym new_links_moved i ++ sym instance_moved i)) ++ (sym own_stores_moved i ++ sym new_stores_moved i)))
        where
          cells : cells_rows (start_of after.wires []) ports there after.wires (rest ++ cells_new) ≡ cells_rows (start_of after.wires []) ports there after.wires rest ++ cells_rows (start_of after.wires []) ports there after.wires cells_new
          cells = rows-append (start_of after.wires []) ports there after.wires rest cells_new

          memories : memories_rows there after.wires after.cells [] (bb.body.memories ++ stores_new) ≡ memories_rows there after.wires after.cells [] bb.body.memories ++ memories_rows there after.wires after.cells [] stores_new
          memories =
              flat_map-append (memory_rows there after.wires after.cells []) bb.body.memories stores_new

    -- in a design they sink by the move of all its bits
    pub melt_sinks : (p : Path) → is_of melt p ≡ true → is_inside melt p ≡ false → Sinks (go melt) p (go_path melt p)
    melt_sinks p is out = record {
      own = λ s. go_outside melt p s out;
      other = λ g e s. go_outside melt (g ∷ p) s (other melt g p e) ∙ ap (λ z. spot_at z s) (path_outside melt g p (other melt g p e) out);
      inside = λ s. go_inside melt p s is;
      deeper = λ g s. go_outside melt (g ∷ frame f.name f.kind_name ∷ p) s (outside melt g (frame f.name f.kind_name ∷ p) (child_outside p)) ∙ ap (λ z. spot_at z s) (path_below melt g p is (child_outside p));
    }

    -- the other instances stay
    pub own_frames : (g : Frame) → In g (instances bb.body.cells) → (g ≡ frame f.name f.kind_name) ⊎ ((frame_same g (frame f.name f.kind_name) ≡ false) × In g (instances after.cells))
    own_frames g i =
        ⊎_elim
        (λ e. inl e)
        (λ r. let x = instance_cell rest g r in
        inr (ap (λ z. frame_same z (frame f.name f.kind_name)) x.3 ∙ others_apart x.0 x.1 x.2, subst (In g) (sym (instances-append rest cells_new)) (In-left g (instances rest) (instances cells_new) r)))
        (subst (In g) (taken_instances f rest bb.body.cells taken) i)

    -- those of the instance have copies
    pub inner_frames : (g : Frame) → In g (instances n.cells) → In (copied_frame melt g) (instances after.cells)
    inner_frames g i =
        let x = instance_cell n.cells g i in
        let k = cell_partner copying_new n.cells cells_new (cells_paired copying_new n.cells (stored n f around)) names.instances x.0 x.1 in
        let none : cell_kind k.0 ≡ None = kind_same x.0 k.0 k.2.kind ∙ x.2 in
        let is : copied_frame melt g ≡ frame k.0.name k.0.kind_name = ap (copied_frame melt) x.3 ∙ (λ j. frame (k.3 x.2 j) (sym k.2.kind j)) in
        subst (In (copied_frame melt g)) (sym (instances-append rest cells_new)) (In-right (copied_frame melt g) (instances rest) (instances cells_new) (subst (λ z. In z (instances cells_new)) (sym is) (instance_in cells_new k.0 k.1 none)))
