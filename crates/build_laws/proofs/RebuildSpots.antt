-- What the rows of a module drive at its own path are bits of its wires, and bits of words.
use Rattle.std.proofs.Common.{◌≡◌, ℕ, ◌<◌, zero, suc, List, [], ◌∷◌, ◌++◌, length, Option, Some, None, inl, inr, refl, sym, ◌∙◌, ap, subst, arith}
use Rattle.std.specs.Prelude.{flat_map, map, slice_get}
use Rattle.std.specs.List.{range_with_len}
use Rattle.cell_types.specs.PinName.{pin_text}
use Rattle.cell_types.specs.declared.kind.CellKind.{CellKind}
use Rattle.cell_types.specs.declared.kind.CellKind.TheVariants.{Gate, Memory, Storage, StorageGate, Word}
use Rattle.cell_types.specs.declared.pin_name.PinName.TheVariants.{Data, Q, Y}
use Rattle.cell_types.specs.declared.shape.Shape.{Shape}
use Rattle.rtl_bits.specs.declared.bit.Bit.{Bit}
use Rattle.rtl_sig.specs.declared.sig.SigBit.{SigBit}
use Rattle.rtl_sig.specs.declared.sig.SigBit.TheVariants.{Fixed, Wire as OnWire}
use Rattle.rtl_sig.specs.declared.sig.WireBit.{WireBit}
use Rattle.rtl_ir.specs.Flat.Access.{Access, accesses_of}
use Rattle.rtl_ir.specs.Flat.Cell.{Ports, cell_kind, cell_rows, cells_rows, instance_rows, kind_rows, outputs, port_joins, stores}
use Rattle.rtl_ir.specs.Flat.Driver.{Driven, StorePoints}
use Rattle.rtl_ir.specs.Flat.Link.{joins, link_rows}
use Rattle.rtl_ir.specs.Flat.Memory.{addresses_of, fetched_rows, init_cells, memories_rows, memory_rows, read_rows, reading_cells, word_row, word_rows}
use Rattle.rtl_ir.specs.Flat.Place.{Frame, IsOf, OfWire, OfWord, Path, Place, frame}
use Rattle.rtl_ir.specs.Flat.Point.{At, Constant, Point, bit_place, name_or_empty, pin_points, points, wire_points}
use Rattle.rtl_ir.specs.Flat.Process.{processes_rows}
use Rattle.rtl_ir.specs.Flat.Rows.{rows_of}
use Rattle.rtl_ir.specs.Flat.Start.{start_of}
use Rattle.rtl_ir.specs.Flat.Tree.{places}
use Rattle.rtl_ir.specs.Parameters.{signal_at}
use Rattle.rtl_ir.specs.declared.cell.Cell.{Cell}
use Rattle.rtl_ir.specs.declared.module.Link.{Link}
use Rattle.rtl_ir.specs.declared.module.Module.{Module}
use Rattle.rtl_ir.specs.declared.ports.PortLine.{PortLine}
use Rattle.rtl_ir.specs.declared.process.Process.{Process}
use Rattle.rtl_ir.specs.declared.store.Store.{Store}
use Rattle.rtl_ir.specs.declared.wire.Role.{Role}
use Rattle.rtl_ir.specs.declared.wire.Role.TheVariants.{Inner, Input, Output, Inout}
use Rattle.rtl_ir.specs.declared.wire.Wire.{Wire}
use Rattle.net_model.proofs.Members.{In-map, In-mapped}
use Rattle.net_model.proofs.Own.{wire_own}
use Rattle.net_model.proofs.Ranges.{each_both, each_filter, each_none, signal_in}
use Rattle.net_model.specs.Lists.{In}
use Rattle.net_model.specs.Within.{CellIn, Each, IsWithin, LinkIn, SigIn}
use Rattle.map_laws.proofs.FreshWires.{names_of}
use Rattle.build_laws.specs.Rebuilds.{driven_bits}
use Rattle.build_laws.proofs.CountingBits.{AreBelow}
use Rattle.build_laws.proofs.RebuildPlaces.{processes_places}

module _ (p : Path) (wires : List Wire) where
  -- a bit is at another path, or of one of these wires, or of no wire
  abbrev pub IsKept : Place → Type 0
  IsKept q = q.path ≡ p → (name : List ℕ) → IsOf name q.spot → In name (names_of wires)

  -- each of these rows drives such a bit
  abbrev pub AreKept : List Driven → Type 0
  AreKept rows = Each (λ (x : Driven). IsKept x.place) rows

  name_there : (ws : List Wire) (at : ℕ) → at < length ws → In (name_or_empty (slice_get ws at)) (names_of ws)
  name_there [] at h = absurd (omega (arith, h))
  name_there (w ∷ ws) zero h = inl refl
  name_there (w ∷ ws) (suc at) h = inr (name_there ws at (omega (arith, h)))

  pub bit_kept : (b : WireBit) → b.wire < length wires → IsKept (bit_place p wires b)
  bit_kept b h e name is =
      let own : List ℕ = name_or_empty (slice_get wires b.wire) in
      let spot : OfWire own b.at ≡ OfWire name is.0 = is.1 in
      let same : own ≡ name = cc in
      subst (λ z. In z (names_of wires)) same (name_there wires b.wire h)

  points_kept : (signal : List SigBit) → SigIn (length wires) signal → (q : Place) → In q (places (points p wires signal)) → IsKept q
  points_kept [] h q i = absurd i
  points_kept (Fixed b ∷ signal) h q i = points_kept signal (λ s j. h s (inr j)) q i
  points_kept (OnWire b ∷ signal) h q (inl e) = subst IsKept (sym e) (bit_kept b (h (OnWire b) (inl refl)))
  points_kept (OnWire b ∷ signal) h q (inr i) = points_kept signal (λ s j. h s (inr j)) q i

  -- what rows drive is among points
  joins_among : (ls rs : List Point) (x : Driven) → In x (joins ls rs) → In x.place (places ls)
  joins_among [] rs x i = absurd i
  joins_among (l ∷ ls) [] x i = absurd i
  joins_among (At q ∷ ls) (r ∷ rs) x (inl e) = inl (ap (λ (d : Driven). d.place) e)
  joins_among (At q ∷ ls) (r ∷ rs) x (inr i) = inr (joins_among ls rs x i)
  joins_among (Constant b ∷ ls) (r ∷ rs) x i = joins_among ls rs x i

  outputs_among : (shape : Shape) (inputs : List (List Point)) (ys : List Point) (at : ℕ) (x : Driven) → In x (outputs shape inputs ys at) → In x.place (places ys)
  outputs_among shape inputs [] at x i = absurd i
  outputs_among shape inputs (At q ∷ ys) at x (inl e) = inl (ap (λ (d : Driven). d.place) e)
  outputs_among shape inputs (At q ∷ ys) at x (inr i) = inr (outputs_among shape inputs ys (suc at) x i)
  outputs_among shape inputs (Constant b ∷ ys) at x i = outputs_among shape inputs ys (suc at) x i

  stores_among : (start : SigBit → Bit) (shape : Shape) (pins : ℕ → StorePoints) (ss : List SigBit) (qs : List Point) (at : ℕ) (x : Driven) → In x (stores start shape pins ss qs at) → In x.place (places qs)
  stores_among start shape pins [] qs at x i = absurd i
  stores_among start shape pins (s ∷ ss) [] at x i = absurd i
  stores_among start shape pins (s ∷ ss) (At q ∷ qs) at x (inl e) = inl (ap (λ (d : Driven). d.place) e)
  stores_among start shape pins (s ∷ ss) (At q ∷ qs) at x (inr i) = inr (stores_among start shape pins ss qs (suc at) x i)
  stores_among start shape pins (s ∷ ss) (Constant b ∷ qs) at x i = stores_among start shape pins ss qs (suc at) x i

  fetched_among : (s : Store) (address ds : List Point) (at : ℕ) (x : Driven) → In x (fetched_rows p s address ds at) → In x.place (places ds)
  fetched_among s address [] at x i = absurd i
  fetched_among s address (At q ∷ ds) at x (inl e) = inl (ap (λ (d : Driven). d.place) e)
  fetched_among s address (At q ∷ ds) at x (inr i) = inr (fetched_among s address ds (suc at) x i)
  fetched_among s address (Constant b ∷ ds) at x i = fetched_among s address ds (suc at) x i

  pin_kept : (c : Cell) → CellIn (length wires) c → (name : List ℕ) (q : Place) → In q (places (points p wires (signal_at c.pins name))) → IsKept q
  pin_kept c within name = points_kept (signal_at c.pins name) (signal_in (length wires) c.pins name within)

  module _ (start : SigBit → Bit) (ports : Ports) (c : Cell) (within : CellIn (length wires) c) where
    kind_kept : (kind : CellKind) → AreKept (kind_rows start p wires c kind)
    kind_kept (Word kind) x i = pin_kept c within (pin_text Y) x.place (outputs_among _ _ (pin_points p wires c.pins Y) 0 x i)
    kind_kept (Gate kind) x i = pin_kept c within (pin_text Y) x.place (outputs_among _ _ (pin_points p wires c.pins Y) 0 x i)
    kind_kept (Storage kind) x i =
        pin_kept c within (pin_text Q) x.place (stores_among start _ _ (signal_at c.pins (pin_text Q)) (pin_points p wires c.pins Q) 0 x i)
    kind_kept (StorageGate gate) x i =
        pin_kept c within (pin_text Q) x.place (stores_among start _ _ (signal_at c.pins (pin_text Q)) (pin_points p wires c.pins Q) 0 x i)
    kind_kept (Memory kind) x i = absurd i

    inner_path : (f : Frame) → f ∷ p ≡ p → ⊥
    inner_path f e = let n : suc (length p) ≡ length p = ap length e in omega (arith, n)

    role_kept : (role : Role) (f : Frame) (port : PortLine) → AreKept (port_joins role (points p wires (signal_at c.pins port.name)) (wire_points (f ∷ p) port.name 0 port.width))
    role_kept Inner f port x i = absurd i
    role_kept Input f port x i = λ e.
        absurd (inner_path f (sym (wire_own (f ∷ p) port.name 0 port.width x.place (joins_among (wire_points (f ∷ p) port.name 0 port.width) (points p wires (signal_at c.pins port.name)) x i)).0 ∙ e))
    role_kept Output f port x i = pin_kept c within port.name x.place (joins_among (points p wires (signal_at c.pins port.name)) (wire_points (f ∷ p) port.name 0 port.width) x i)
    role_kept Inout f port x i = absurd i

    instance_kept : (f : Frame) (lines : List PortLine) → AreKept (instance_rows p wires c.pins f lines)
    instance_kept f [] = each_none (λ (x : Driven). IsKept x.place)
    instance_kept f (port ∷ lines) =
        each_both (λ (x : Driven). IsKept x.place) (port_joins port.role (points p wires (signal_at c.pins port.name)) (wire_points (f ∷ p) port.name 0 port.width)) (instance_rows p wires c.pins f lines) (role_kept port.role f port) (instance_kept f lines)

    cell_kept : (k : Option CellKind) → AreKept (cell_rows start ports p wires c k)
    cell_kept (Some kind) = kind_kept kind
    cell_kept None = instance_kept (frame c.name c.kind_name) (ports c.kind_name)

  pub cells_kept : (start : SigBit → Bit) (ports : Ports) (cs : List Cell) → Each (CellIn (length wires)) cs → AreKept (cells_rows start ports p wires cs)
  cells_kept start ports [] h = each_none (λ (x : Driven). IsKept x.place)
  cells_kept start ports (c ∷ cs) h =
      each_both (λ (x : Driven). IsKept x.place) (cell_rows start ports p wires c (cell_kind c)) (cells_rows start ports p wires cs)
      (cell_kept start ports c (h c (inl refl)) (cell_kind c)) (cells_kept start ports cs (λ d j. h d (inr j)))

  pub links_kept : (ls : List Link) → Each (LinkIn (length wires)) ls → AreKept (link_rows p wires ls)
  links_kept [] h = each_none (λ (x : Driven). IsKept x.place)
  links_kept (l ∷ ls) h =
      each_both (λ (x : Driven). IsKept x.place) (joins (points p wires l.left) (points p wires l.right)) (link_rows p wires ls)
      (λ x a. points_kept l.left (h l (inl refl)).0 x.place (joins_among (points p wires l.left) (points p wires l.right) x a))
      (links_kept ls (λ k j. h k (inr j)))

  word_kept : (s : Store) (accesses : List Access) (inits : List Cell) (addresses : List ℕ) → AreKept (flat_map (λ address. map (word_row p wires s accesses inits address) (range_with_len 0 s.width)) addresses)
  word_kept s accesses inits [] = each_none (λ (x : Driven). IsKept x.place)
  word_kept s accesses inits (a ∷ addresses) =
      each_both (λ (x : Driven). IsKept x.place) (map (word_row p wires s accesses inits a) (range_with_len 0 s.width)) _
      (λ x i e name is.
      let k = In-mapped (word_row p wires s accesses inits a) x (range_with_len 0 s.width) i in
      let spot : OfWord s.name a k.0 ≡ OfWire name is.0 = sym (ap (λ (d : Driven). d.place.spot) k.2) ∙ is.1 in
      absurd (cc))
      (word_kept s accesses inits addresses)

  reads_kept : (s : Store) (cs : List Cell) → Each (CellIn (length wires)) cs → AreKept (flat_map (read_rows p wires s) cs)
  reads_kept s [] h = each_none (λ (x : Driven). IsKept x.place)
  reads_kept s (c ∷ cs) h =
      each_both (λ (x : Driven). IsKept x.place) (read_rows p wires s c) (flat_map (read_rows p wires s) cs)
      (λ x i. pin_kept c (h c (inl refl)) (pin_text Data) x.place (fetched_among s _ (points p wires (signal_at c.pins (pin_text Data))) 0 x i))
      (reads_kept s cs (λ d j. h d (inr j)))

  pub memories_kept : (cells : List Cell) (processes : List Process) → Each (CellIn (length wires)) cells → (ss : List Store) → AreKept (memories_rows p wires cells processes ss)
  memories_kept cells processes h [] = each_none (λ (x : Driven). IsKept x.place)
  memories_kept cells processes h (s ∷ ss) =
      each_both (λ (x : Driven). IsKept x.place) (memory_rows p wires cells processes s) (memories_rows p wires cells processes ss)
      (each_both (λ (x : Driven). IsKept x.place) (word_rows p wires s (accesses_of s.name cells processes) (init_cells s.name cells)) (flat_map (read_rows p wires s) (reading_cells s.name cells))
      (word_kept s (accesses_of s.name cells processes) (init_cells s.name cells) (addresses_of s))
      (reads_kept s (reading_cells s.name cells) (each_filter (CellIn (length wires)) _ cells h)))
      (memories_kept cells processes h ss)

  processes_kept : (start : SigBit → Bit) (m : Module) (qs : List Process) → AreBelow (length wires) (flat_map driven_bits qs) → AreKept (processes_rows start p wires m qs)
  processes_kept start m qs h x i =
      let k = In-mapped (bit_place p wires) x.place (flat_map driven_bits qs) (subst (In x.place) (processes_places start p wires m qs) (In-map (λ (d : Driven). d.place) x (processes_rows start p wires m qs) i)) in
      subst IsKept (sym k.2) (bit_kept k.0 (h k.0 k.1))

-- so it is with all rows of a module
pub rows_kept : (ports : Ports) (p : Path) (m : Module) → IsWithin m → AreBelow (length m.wires) (flat_map driven_bits m.processes) → AreKept p m.wires (rows_of ports p m)
rows_kept ports p m h low =
    let start : SigBit → Bit = start_of m.wires m.processes in
    let memories : List Driven = memories_rows p m.wires m.cells m.processes m.memories in
    let processes : List Driven = processes_rows start p m.wires m m.processes in
    each_both (λ (x : Driven). IsKept p m.wires x.place) (cells_rows start ports p m.wires m.cells) (link_rows p m.wires m.links ++ (processes ++ memories)) (cells_kept p m.wires start ports m.cells h.cells)
    (each_both (λ (x : Driven). IsKept p m.wires x.place) (link_rows p m.wires m.links) (processes ++ memories) (links_kept p m.wires m.links h.links)
    (each_both (λ (x : Driven). IsKept p m.wires x.place) processes memories (processes_kept p m.wires start m m.processes low) (memories_kept p m.wires m.cells m.processes h.cells m.memories)))
