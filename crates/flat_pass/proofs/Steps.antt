-- What is kept from one replacement to the next: signals on own wires, cells of own memories, and names that differ.
use Rattle.std.proofs.Common.{◌≡◌, ℕ, zero, suc, ◌+◌, ◌<◌, ◌≤◌, Bool, true, false, cond, List, [], ◌∷◌, ◌++◌, length, map, Option, Some, None, inl, inr, ⊎_elim, refl, sym, ◌∙◌, ap, subst, arith, length-append}
use Rattle.std.specs.Prelude.{flat_map}
use Rattle.std.specs.List.{range_with_len}
use Rattle.rtl_sig.specs.declared.sig.SigBit.{SigBit}
use Rattle.rtl_sig.specs.declared.sig.SigBit.TheVariants.{Fixed, Wire as OnWire}
use Rattle.cell_types.specs.declared.kind.CellKind.{CellKind}
use Rattle.rtl_ir.specs.declared.cell.Cell.{Cell}
use Rattle.rtl_ir.specs.declared.cell.Pin.{Pin}
use Rattle.rtl_ir.specs.declared.module.Link.{Link}
use Rattle.rtl_ir.specs.declared.module.Module.{Module}
use Rattle.rtl_ir.specs.declared.ports.PortLine.{PortLine}
use Rattle.rtl_ir.specs.declared.store.Store.{Store}
use Rattle.rtl_ir.specs.declared.wire.Role.{Role}
use Rattle.rtl_ir.specs.declared.wire.Role.TheVariants.{Inner, Input, Output, Inout}
use Rattle.rtl_ir.specs.declared.wire.Wire.{Wire}
use Rattle.rtl_ir.specs.Build.{Building, module_names, whole}
use Rattle.rtl_ir.specs.Flat.Cell.{cell_kind, instance_of, instances, listed}
use Rattle.rtl_ir.specs.Flat.Place.{Frame}
use Rattle.rtl_ir.specs.Parameters.{signal_at}
use Rattle.rtl_ir.specs.Ports.{ports_of}
use Rattle.rtl_ir.specs.Rules.{has_item}
use Rattle.net_model.specs.Lists.{Distinct, In}
use Rattle.net_model.specs.Within.{BitIn, CellIn, Each, IsWithin, LinkIn, SigIn}
use Rattle.net_model.proofs.Members.{apart_from, apart_at, Distinct-append, In-cases, In-left, In-map, In-mapped, In-right, map-append}
use Rattle.net_model.proofs.Ranges.{signal_in}
use Rattle.pass_laws.proofs.Ports.{line_port}
use Rattle.flat_pass.specs.Copies.{Copying, copied_bit, copied_link, copied_pin}
use Rattle.flat_pass.specs.Flat.{copy_name, dotted, links_of, place_of_wire, port_links, put_all, put_cell, put_store, put_wire, replaced, role_links}
use Rattle.flat_pass.proofs.Closed.{cell_copies, stored, stores_copied, wire_copies, wired}
use Rattle.flat_pass.proofs.RowsGo.{flat_row}
use Rattle.flat_pass.proofs.Partners.{AreOf, CellCopied, Paired, WireCopied, cells_paired, frame_names, instance_cell, paired_back, store_name, wire_name, wires_paired}
use Rattle.net_model.proofs.Swapping.{instances-append}
use Rattle.flat_pass.proofs.Taking.{Split, rest_in, taken_in, taken_instances}
use Rattle.flat_pass.proofs.PortsGo.{place_found}
use Rattle.flat_pass.proofs.Fresh.{AreNew, IsFresh, all_new, all_rises, cell_adds, cell_names, given, memory_names, process_names, store_adds, wire_adds, wire_names}
use Rattle.flat_pass.proofs.Melted.{HasNames, IsPlain, after, around, cells_new, copying_new, new_of, stores_new, wires_new}

-- names that are given, as names of the copies
abbrev pub wires_named : List ℕ → List Wire → Building → List (List ℕ)
wires_named instance = given (put_wire instance) (λ (w : Wire). w.name) instance (λ w b. refl) (wire_adds instance)

abbrev pub stores_named : List ℕ → List Store → Building → List (List ℕ)
stores_named instance = given (put_store instance) (λ (s : Store). s.name) instance (λ s b. refl) (store_adds instance)

abbrev pub cells_named : Copying → List Cell → Building → List (List ℕ)
cells_named k = given (put_cell k) (λ (c : Cell). c.name) k.instance (λ c b. refl) (cell_adds k)

wires_given : (instance : List ℕ) (ws : List Wire) (b : Building) → wires_named instance ws b ≡ map wire_name (wire_copies instance ws b)
wires_given instance [] b = refl
wires_given instance (w ∷ ws) b =
    ap (λ z. copy_name b (dotted instance w.name) ∷ z) (wires_given instance ws (put_wire instance w b))

stores_given : (instance : List ℕ) (ss : List Store) (b : Building) → stores_named instance ss b ≡ map store_name (stores_copied instance ss b)
stores_given instance [] b = refl
stores_given instance (s ∷ ss) b =
    ap (λ z. copy_name b (dotted instance s.name) ∷ z) (stores_given instance ss (put_store instance s b))

abbrev pub cell_name : Cell → List ℕ
cell_name c = c.name

cells_given : (k : Copying) (cs : List Cell) (b : Building) → cells_named k cs b ≡ map cell_name (cell_copies k cs b)
cells_given k [] b = refl
cells_given k (c ∷ cs) b =
    ap (λ z. copy_name b (dotted k.instance c.name) ∷ z) (cells_given k cs (put_cell k c b))

-- names of instances are names of cells
pub frames_in : (cs : List Cell) (x : List ℕ) → In x (frame_names cs) → In x (map cell_name cs)
frames_in cs x i =
    let f = In-mapped (λ (f : Frame). f.name) x (instances cs) i in
    let c = instance_cell cs f.0 f.1 in
    subst (λ z. In z (map cell_name cs)) (sym (f.2 ∙ ap (λ (z : Frame). z.name) c.3)) (In-map cell_name c.0 cs c.1)

pub frames_distinct : (cs : List Cell) → Distinct (map cell_name cs) → Distinct (frame_names cs)
frames_distinct [] d = tt
frames_distinct (c ∷ cs) d = by (cell_kind c) (frames_distinct cs d.1)
  where
    by : (o : Option CellKind) → Distinct (frame_names cs) → Distinct (map (λ (f : Frame). f.name) (listed (instance_of c o) ++ instances cs))
    by (Some kind) later = later
    by None later = (
      apart_from c.name (frame_names cs) (λ y i e. apart_at c.name (map cell_name cs) d.0 y (frames_in cs y i) e),
      later,
    )

-- signals on more wires
pub sig_more : (count more : ℕ) (ss : List SigBit) → SigIn count ss → SigIn (count + more) ss
sig_more count more ss h s i = by s (h s i)
  where
    by : (s : SigBit) → BitIn count s → BitIn (count + more) s
    by (Fixed b) k = tt
    by (OnWire b) k = omega (arith, k)

pub sig_copied : (first count : ℕ) (ss : List SigBit) → SigIn count ss → SigIn (first + count) (map (copied_bit first) ss)
sig_copied first count ss h s i =
    let x = In-mapped (copied_bit first) s ss i in
    subst (BitIn (first + count)) (sym x.2) (by x.0 (h x.0 x.1))
  where
    by : (s : SigBit) → BitIn count s → BitIn (first + count) (copied_bit first s)
    by (Fixed b) k = tt
    by (OnWire b) k = omega (arith, k)

pub whole_in : (count wire at width : ℕ) → wire < count → SigIn count (map OnWire (map (λ n. record { wire = wire; at = n }) (range_with_len at width)))
whole_in count wire at zero h s i = absurd i
whole_in count wire at (suc width) h s (inl e) = subst (BitIn count) (sym e) h
whole_in count wire at (suc width) h s (inr i) = whole_in count wire (at + 1) width h s i

pub paired_length : {A B : Type 0} (R : A → B → Type 0) (xs : List A) (ys : List B) → Paired R xs ys → length xs ≡ length ys
paired_length R [] [] h = refl
paired_length R (x ∷ xs) (y ∷ ys) h = ap suc (paired_length R xs ys h.1)
paired_length R [] (y ∷ ys) h = absurd h
paired_length R (x ∷ xs) [] h = absurd h

module _ (bb : Building) (f : Cell) (rest : List Cell) (n : Module) (taken : Split f rest bb.body.cells) (body : IsPlain bb.body) (child : IsPlain n) where
  abbrev first : ℕ
  first = length bb.body.wires

  count : length (after bb f rest n).wires ≡ length bb.body.wires + length n.wires
  count =
      length-append bb.body.wires (wires_new bb f rest n)
      ∙ ap (λ z. length bb.body.wires + z) (sym (paired_length WireCopied n.wires (wires_new bb f rest n) (wires_paired f.name n.wires (around bb f rest n))))

  own_in : (ss : List SigBit) → SigIn (length bb.body.wires) ss → SigIn (length (after bb f rest n).wires) ss
  own_in ss h =
      subst (λ z. SigIn z ss) (sym count) (sig_more (length bb.body.wires) (length n.wires) ss h)

  new_in : (ss : List SigBit) → SigIn (length n.wires) ss → SigIn (length (after bb f rest n).wires) (map (copied_bit (length bb.body.wires)) ss)
  new_in ss h =
      subst (λ z. SigIn z (map (copied_bit (length bb.body.wires)) ss)) (sym count) (sig_copied (length bb.body.wires) (length n.wires) ss h)

  port_in : (name : List ℕ) (width : ℕ) (w : Wire) → In w n.wires → name ≡ w.name → SigIn (length (after bb f rest n).wires) (whole (length bb.body.wires + place_of_wire n.wires name) width)
  port_in name width w i e =
      let k = place_found n.wires w i in
      let low : place_of_wire n.wires name < length n.wires = subst (λ z. place_of_wire n.wires z < length n.wires) (sym e) k.0 in
      let all = count in
      whole_in (length (after bb f rest n).wires) (length bb.body.wires + place_of_wire n.wires name) 0 width (omega (arith, low, all))

  role_in : (role : Role) (pin wire : List SigBit) (c : ℕ) → SigIn c pin → SigIn c wire → Each (LinkIn c) (role_links role pin wire)
  role_in Inner pin wire c h k l i = absurd i
  role_in Inout pin wire c h k l i = absurd i
  role_in Input pin wire c h k l (inl e) = subst (LinkIn c) (sym e) (k, h)
  role_in Input pin wire c h k l (inr i) = absurd i
  role_in Output pin wire c h k l (inl e) = subst (LinkIn c) (sym e) (h, k)
  role_in Output pin wire c h k l (inr i) = absurd i

  if_in : (t : Bool) (ls : List Link) (l : Link) → In l (cond t ls []) → In l ls
  if_in true ls l i = i
  if_in false ls l i = absurd i

  port_links_in : (l : Link) → In l (flat_map (port_links (length bb.body.wires) n.wires f.pins) (ports_of n.wires)) → LinkIn (length (after bb f rest n).wires) l
  port_links_in l i =
      let k = flat_row (port_links (length bb.body.wires) n.wires f.pins) (ports_of n.wires) l i in
      let w = line_port n.wires k.0 k.1 in
      let wire = port_in k.0.name k.0.width w.0 w.1 (ap (λ (z : PortLine). z.name) w.3) in
      let pin = own_in (signal_at f.pins k.0.name) (signal_in (length bb.body.wires) f.pins k.0.name (body.within.cells f (taken_in f rest bb.body.cells taken))) in
      role_in k.0.role (signal_at f.pins k.0.name) (whole (length bb.body.wires + place_of_wire n.wires k.0.name) k.0.width) (length (after bb f rest n).wires) pin wire l (if_in (has_item (signal_at f.pins k.0.name)) (role_links k.0.role (signal_at f.pins k.0.name) (whole (length bb.body.wires + place_of_wire n.wires k.0.name) k.0.width)) l k.2)

  new_link_in : (l : Link) → In l (map (copied_link (length bb.body.wires)) n.links) → LinkIn (length (after bb f rest n).wires) l
  new_link_in l i =
      let x = In-mapped (copied_link (length bb.body.wires)) l n.links i in
      let h = child.within.links x.0 x.1 in
      subst (LinkIn (length (after bb f rest n).wires)) (sym x.2) (new_in x.0.left h.0, new_in x.0.right h.1)

  links_in : (l : Link) → In l (after bb f rest n).links → LinkIn (length (after bb f rest n).wires) l
  links_in l i =
      ⊎_elim
      (λ a. let h = body.within.links l a in (own_in l.left h.0, own_in l.right h.1))
      (λ r. ⊎_elim (λ a. new_link_in l a) (λ b. port_links_in l b) (In-cases l (map (copied_link (length bb.body.wires)) n.links) (flat_map (port_links (length bb.body.wires) n.wires f.pins) (ports_of n.wires)) r))
      (In-cases l bb.body.links (links_of (length bb.body.wires) n f.pins) i)

  new_cell_in : (y : Cell) → In y (cells_new bb f rest n) → CellIn (length (after bb f rest n).wires) y
  new_cell_in y i =
      let x = paired_back (CellCopied (copying_new bb f rest n)) n.cells (cells_new bb f rest n) (cells_paired (copying_new bb f rest n) n.cells (stored n f (around bb f rest n))) y i in
      subst (Each (λ (pin : Pin). SigIn (length (after bb f rest n).wires) pin.sig)) (sym x.2.pins) (λ q j. let p = In-mapped (copied_pin (length bb.body.wires)) q x.0.pins j in
      subst (λ (z : Pin). SigIn (length (after bb f rest n).wires) z.sig) (sym p.2) (new_in p.0.sig (child.within.cells x.0 x.1 p.0 p.1)))

  cells_in : (y : Cell) → In y (after bb f rest n).cells → CellIn (length (after bb f rest n).wires) y
  cells_in y i =
      ⊎_elim
      (λ a. λ q j. own_in q.sig (body.within.cells y (rest_in f rest bb.body.cells taken y a) q j))
      (λ b. new_cell_in y b)
      (In-cases y rest (cells_new bb f rest n) i)

  after_within : IsWithin (after bb f rest n)
  after_within = record {
    cells = cells_in;
    links = links_in;
    processes = λ p i. absurd (subst (In p) body.processes i);
  }

  -- names
  module _ (names : HasNames n) (own_names : HasNames bb.body) (fresh : IsFresh bb) (few : (put_all (put_cell (copying_new bb f rest n)) n.cells (stored n f (around bb f rest n))).next ≤ 1000000000) where
    around_names : (x : List ℕ) → In x (module_names (around bb f rest n).body) → In x (module_names bb.body)
    around_names x i =
        ⊎_elim
        (λ l. In-left x (wire_names bb.body ++ memory_names bb.body ++ cell_names bb.body) (process_names bb.body) (⊎_elim
        (λ m. In-left x (wire_names bb.body ++ memory_names bb.body) (cell_names bb.body) m)
        (λ c. In-right x (wire_names bb.body ++ memory_names bb.body) (cell_names bb.body) (in_rest c))
        (In-cases x (wire_names bb.body ++ memory_names bb.body) (map cell_name rest) l)))
        (λ p. In-right x (wire_names bb.body ++ memory_names bb.body ++ cell_names bb.body) (process_names bb.body) p)
        (In-cases x (wire_names bb.body ++ memory_names bb.body ++ map cell_name rest) (process_names bb.body) i)
      where
        in_rest : In x (map cell_name rest) → In x (map cell_name bb.body.cells)
        in_rest j =
            let c = In-mapped cell_name x rest j in
            subst (λ z. In z (map cell_name bb.body.cells)) (sym c.2) (In-map cell_name c.0 bb.body.cells (rest_in f rest bb.body.cells taken c.0 c.1))

    fresh_around : IsFresh (around bb f rest n)
    fresh_around = record { positive = fresh.positive; below = λ x i. fresh.below x (around_names x i) }

    stored_few : (put_all (put_store f.name) n.memories (wired n f (around bb f rest n))).next ≤ 1000000000
    stored_few =
        let more = all_rises (put_cell (copying_new bb f rest n)) (λ (c : Cell). c.name) f.name (λ c b. refl) (cell_adds (copying_new bb f rest n)) n.cells (stored n f (around bb f rest n)) in
        omega (arith, few, more)

    wired_few : (put_all (put_wire f.name) n.wires (around bb f rest n)).next ≤ 1000000000
    wired_few =
        let more = all_rises (put_store f.name) (λ (s : Store). s.name) f.name (λ s b. refl) (store_adds f.name) n.memories (wired n f (around bb f rest n)) in
        let low = stored_few in
        omega (arith, low, more)

    wires_fresh : AreNew (put_wire f.name) (λ (w : Wire). w.name) f.name (λ w b. refl) (wire_adds f.name) n.wires (around bb f rest n)
    wires_fresh =
        all_new (put_wire f.name) (λ (w : Wire). w.name) f.name (λ w b. refl) (wire_adds f.name) n.wires (around bb f rest n) fresh_around wired_few

    stores_fresh : AreNew (put_store f.name) (λ (s : Store). s.name) f.name (λ s b. refl) (store_adds f.name) n.memories (wired n f (around bb f rest n))
    stores_fresh =
        all_new (put_store f.name) (λ (s : Store). s.name) f.name (λ s b. refl) (store_adds f.name) n.memories (wired n f (around bb f rest n)) wires_fresh.fresh stored_few

    cells_fresh : AreNew (put_cell (copying_new bb f rest n)) (λ (c : Cell). c.name) f.name (λ c b. refl) (cell_adds (copying_new bb f rest n)) n.cells (stored n f (around bb f rest n))
    cells_fresh =
        all_new (put_cell (copying_new bb f rest n)) (λ (c : Cell). c.name) f.name (λ c b. refl) (cell_adds (copying_new bb f rest n)) n.cells (stored n f (around bb f rest n)) stores_fresh.fresh few

    -- copies of wires
    pub new_wires_distinct : Distinct (map wire_name (wires_new bb f rest n))
    new_wires_distinct = subst Distinct (wires_given f.name n.wires (around bb f rest n)) wires_fresh.distinct

    pub new_wires_apart : (x : List ℕ) → In x (module_names (around bb f rest n).body) → In x (map wire_name (wires_new bb f rest n)) → ⊥
    new_wires_apart x i j =
        wires_fresh.new x (subst (In x) (sym (wires_given f.name n.wires (around bb f rest n))) j) i

    -- copies of memories
    pub new_stores_distinct : Distinct (map store_name (stores_new bb f rest n))
    new_stores_distinct =
        subst Distinct (stores_given f.name n.memories (wired n f (around bb f rest n))) stores_fresh.distinct

    pub new_stores_apart : (x : List ℕ) → In x (module_names (around bb f rest n).body) → In x (map store_name (stores_new bb f rest n)) → ⊥
    new_stores_apart x i j =
        stores_fresh.new x (subst (In x) (sym (stores_given f.name n.memories (wired n f (around bb f rest n)))) j) (wires_fresh.kept x i)

    -- copies of cells
    pub new_cells_distinct : Distinct (map cell_name (cells_new bb f rest n))
    new_cells_distinct =
        subst Distinct (cells_given (copying_new bb f rest n) n.cells (stored n f (around bb f rest n))) cells_fresh.distinct

    new_cells_apart : (x : List ℕ) → In x (module_names (around bb f rest n).body) → In x (map cell_name (cells_new bb f rest n)) → ⊥
    new_cells_apart x i j =
        cells_fresh.new x (subst (In x) (sym (cells_given (copying_new bb f rest n) n.cells (stored n f (around bb f rest n)))) j) (stores_fresh.kept x (wires_fresh.kept x i))

    wire_known : (x : List ℕ) → In x (map wire_name bb.body.wires) → In x (module_names (around bb f rest n).body)
    wire_known x i =
        In-left x (wire_names bb.body ++ memory_names bb.body ++ map cell_name rest) (process_names bb.body) (In-left x (wire_names bb.body ++ memory_names bb.body) (map cell_name rest) (In-left x (wire_names bb.body) (memory_names bb.body) i))

    store_known : (x : List ℕ) → In x (map store_name bb.body.memories) → In x (module_names (around bb f rest n).body)
    store_known x i =
        In-left x (wire_names bb.body ++ memory_names bb.body ++ map cell_name rest) (process_names bb.body) (In-left x (wire_names bb.body ++ memory_names bb.body) (map cell_name rest) (In-right x (wire_names bb.body) (memory_names bb.body) i))

    cell_known : (x : List ℕ) → In x (map cell_name rest) → In x (module_names (around bb f rest n).body)
    cell_known x i =
        In-left x (wire_names bb.body ++ memory_names bb.body ++ map cell_name rest) (process_names bb.body) (In-right x (wire_names bb.body ++ memory_names bb.body) (map cell_name rest) i)

    pub wires_apart : (x : List ℕ) → In x (map wire_name bb.body.wires) → In x (map wire_name (wires_new bb f rest n)) → ⊥
    wires_apart x i j = new_wires_apart x (wire_known x i) j

    pub stores_apart : (x : List ℕ) → In x (map store_name bb.body.memories) → In x (map store_name (stores_new bb f rest n)) → ⊥
    stores_apart x i j = new_stores_apart x (store_known x i) j

    pub wires_distinct : Distinct (map wire_name (after bb f rest n).wires)
    wires_distinct =
        subst Distinct (sym (map-append wire_name bb.body.wires (wires_new bb f rest n))) (Distinct-append (map wire_name bb.body.wires) (map wire_name (wires_new bb f rest n)) own_names.wires new_wires_distinct (λ x i j. new_wires_apart x (wire_known x i) j))

    pub stores_distinct : Distinct (map store_name (after bb f rest n).memories)
    stores_distinct =
        subst Distinct (sym (map-append store_name bb.body.memories (stores_new bb f rest n))) (Distinct-append (map store_name bb.body.memories) (map store_name (stores_new bb f rest n)) own_names.memories new_stores_distinct (λ x i j. new_stores_apart x (store_known x i) j))

    rest_frames : Distinct (frame_names rest)
    rest_frames =
        (subst (λ z. Distinct (map (λ (g : Frame). g.name) z)) (taken_instances f rest bb.body.cells taken) own_names.instances).1

    pub frames_apart : (x : List ℕ) → In x (frame_names rest) → In x (frame_names (cells_new bb f rest n)) → ⊥
    frames_apart x i j =
        new_cells_apart x (cell_known x (frames_in rest x i)) (frames_in (cells_new bb f rest n) x j)

    instances_distinct : Distinct (frame_names (after bb f rest n).cells)
    instances_distinct =
        subst Distinct (sym (ap (map (λ (g : Frame). g.name)) (instances-append rest (cells_new bb f rest n)) ∙ map-append (λ (g : Frame). g.name) (instances rest) (instances (cells_new bb f rest n)))) (Distinct-append (frame_names rest) (frame_names (cells_new bb f rest n)) rest_frames (frames_distinct (cells_new bb f rest n) new_cells_distinct) frames_apart)

    pub after_names : HasNames (after bb f rest n)
    after_names = record { wires = wires_distinct; memories = stores_distinct; instances = instances_distinct }

    pub after_fresh : IsFresh (replaced n f (around bb f rest n))
    unfolding replaced
    after_fresh = let k = cells_fresh.fresh in record { positive = k.positive; below = k.below }

    module _ (apart : f.kind_name ≡ bb.body.id → ⊥) where
      after_of : AreOf (after bb f rest n).memories (after bb f rest n).cells
      after_of x i kind e =
          ⊎_elim
          (λ l. let s = body.cells x (rest_in f rest bb.body.cells taken x l) kind e in
          (s.0, In-left s.0 bb.body.memories (stores_new bb f rest n) s.1, s.2))
          (λ r. let s = new_of bb f rest n taken body child names stores_distinct own_names.instances apart x r kind e in
          (s.0, In-right s.0 bb.body.memories (stores_new bb f rest n) s.1, s.2))
          (In-cases x rest (cells_new bb f rest n) i)

      pub after_plain : IsPlain (after bb f rest n)
      after_plain = record { within = after_within; processes = body.processes; cells = after_of }
