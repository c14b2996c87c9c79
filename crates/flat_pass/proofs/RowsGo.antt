-- The rows of a module whose items are copied into another one: they are rows of that one, once their bits move.
use Rattle.std.proofs.Common.{◌≡◌, ℕ, suc, false, List, [], ◌∷◌, ◌++◌, length, map, Option, Some, None, inl, inr, ⊎_elim, refl, sym, ◌∙◌, ap, subst, append_assoc}
use Rattle.std.specs.Prelude.{flat_map}
use Rattle.std.specs.List.{range_with_len}
use Rattle.rtl_bits.specs.declared.bit.Bit.{Bit}
use Rattle.rtl_sig.specs.declared.sig.SigBit.{SigBit}
use Rattle.rtl_sig.specs.declared.sig.SigBit.TheVariants.{Fixed}
use Rattle.cell_types.specs.declared.kind.CellKind.{CellKind}
use Rattle.cell_types.specs.declared.kind.CellKind.TheVariants.{Word, Gate, Storage, StorageGate, Memory}
use Rattle.cell_types.specs.declared.shape.Shape.{Shape}
use Rattle.cell_types.specs.declared.pin_name.PinName.TheVariants as names
use Rattle.cell_types.specs.Kind.{kind_of}
use Rattle.cell_types.specs.PinName.{pin_text}
use Rattle.rtl_ir.specs.declared.cell.Cell.{Cell}
use Rattle.rtl_ir.specs.declared.cell.Pin.{Pin}
use Rattle.rtl_ir.specs.declared.module.Link.{Link}
use Rattle.rtl_ir.specs.declared.module.Module.{Module}
use Rattle.rtl_ir.specs.declared.ports.PortLine.{PortLine}
use Rattle.rtl_ir.specs.declared.process.Process.{Process}
use Rattle.rtl_ir.specs.declared.store.Store.{Store}
use Rattle.rtl_ir.specs.declared.wire.Role.{Role}
use Rattle.rtl_ir.specs.declared.wire.Role.TheVariants.{Inner, Input, Output, Inout}
use Rattle.rtl_ir.specs.declared.wire.Wire.{Wire}
use Rattle.rtl_ir.specs.Faults.Cells.{is_memory_kind}
use Rattle.rtl_ir.specs.Flat.Access.{Access, accesses_of}
use Rattle.rtl_ir.specs.Flat.Cell.{Ports, cell_kind, cell_rows, cell_shape, cells_rows, instance_rows, gate_store, kind_rows, outputs, port_joins, stored_rows, stores, word_store, worked_rows}
use Rattle.rtl_ir.specs.Flat.Driver.{Driven, StorePoints}
use Rattle.rtl_ir.specs.Flat.Link.{joins, link_rows}
use Rattle.rtl_ir.specs.Flat.Memory.{addresses_of, fetched_rows, init_cells, memories_rows, memory_rows, read_rows, reading_cells, word_row, word_rows}
use Rattle.rtl_ir.specs.Flat.Place.{Frame, frame, Path, wire_place, word_place}
use Rattle.rtl_ir.specs.Flat.Point.{Point, Constant, At, pin_points, point, points, wire_points}
use Rattle.rtl_ir.specs.Flat.Process.{processes_rows}
use Rattle.rtl_ir.specs.Flat.Rows.{rows_of}
use Rattle.rtl_ir.specs.Flat.Start.{start_of}
use Rattle.rtl_ir.specs.Parameters.{signal_at}
use Rattle.rtl_ir.specs.Signals.{constant_of}
use Rattle.net_model.specs.Lists.{In}
use Rattle.net_model.specs.Within.{BitIn, CellIn, Each, IsWithin, LinkIn}
use Rattle.net_model.proofs.Members.{In-cases, In-left, In-map, In-right, map-append}
use Rattle.flat_pass.proofs.Moving.{IsFair, Move, moved, moved_point}
use Rattle.flat_pass.proofs.MovedRuns.{GoesInto}
use Rattle.flat_pass.proofs.Partners.{Paired}
use Rattle.flat_pass.proofs.RowsMoved.{instance_moved, joins_moved, kind_moved, points_moved}
use Rattle.flat_pass.proofs.RowsMemories.{Copies, memory_goes, starting, writing}

-- no row of a module without processes holds
module _ (go : Move) where
  abbrev Fair : List Driven → Type 0
  Fair xs = (x : Driven) → In x xs → IsFair go x.driver

  fair_both : (xs ys : List Driven) → Fair xs → Fair ys → Fair (xs ++ ys)
  fair_both xs ys h k x i = ⊎_elim (λ l. h x l) (λ r. k x r) (In-cases x xs ys i)

  map_fair : {A : Type 0} (f : A → Driven) (xs : List A) → ((a : A) → IsFair go (f a).driver) → Fair (map f xs)
  map_fair f [] h x i = absurd i
  map_fair f (a ∷ xs) h x (inl e) = subst (λ z. IsFair go z.driver) (sym e) (h a)
  map_fair f (a ∷ xs) h x (inr i) = map_fair f xs h x i

  flat_fair : {A : Type 0} (f : A → List Driven) (xs : List A) → ((a : A) → Fair (f a)) → Fair (flat_map f xs)
  flat_fair f [] h x i = absurd i
  flat_fair f (a ∷ xs) h x i = fair_both (f a) (flat_map f xs) (h a) (flat_fair f xs h) x i

  pub joins_fair : (ls rs : List Point) (x : Driven) → In x (joins ls rs) → IsFair go x.driver
  joins_fair [] rs x i = absurd i
  joins_fair (At q ∷ ls) [] x i = absurd i
  joins_fair (Constant b ∷ ls) [] x i = absurd i
  joins_fair (At q ∷ ls) (r ∷ rs) x (inl e) = subst (λ z. IsFair go z.driver) (sym e) tt
  joins_fair (At q ∷ ls) (r ∷ rs) x (inr i) = joins_fair ls rs x i
  joins_fair (Constant b ∷ ls) (r ∷ rs) x i = joins_fair ls rs x i

  outputs_fair : (shape : Shape) (inputs : List (List Point)) (ys : List Point) (at : ℕ) (x : Driven) → In x (outputs shape inputs ys at) → IsFair go x.driver
  outputs_fair shape inputs [] at x i = absurd i
  outputs_fair shape inputs (At q ∷ ys) at x (inl e) = subst (λ z. IsFair go z.driver) (sym e) tt
  outputs_fair shape inputs (At q ∷ ys) at x (inr i) = outputs_fair shape inputs ys (suc at) x i
  outputs_fair shape inputs (Constant b ∷ ys) at x i = outputs_fair shape inputs ys (suc at) x i

  stores_fair : (start : SigBit → Bit) (shape : Shape) (reads : ℕ → StorePoints) (ss : List SigBit) (qs : List Point) (at : ℕ) (x : Driven) → In x (stores start shape reads ss qs at) → IsFair go x.driver
  stores_fair start shape reads [] qs at x i = absurd i
  stores_fair start shape reads (s ∷ ss) [] at x i = absurd i
  stores_fair start shape reads (s ∷ ss) (At q ∷ qs) at x (inl e) = subst (λ z. IsFair go z.driver) (sym e) tt
  stores_fair start shape reads (s ∷ ss) (At q ∷ qs) at x (inr i) = stores_fair start shape reads ss qs (suc at) x i
  stores_fair start shape reads (s ∷ ss) (Constant b ∷ qs) at x i = stores_fair start shape reads ss qs (suc at) x i

  fetched_fair : (p : Path) (s : Store) (address qs : List Point) (at : ℕ) (x : Driven) → In x (fetched_rows p s address qs at) → IsFair go x.driver
  fetched_fair p s address [] at x i = absurd i
  fetched_fair p s address (At q ∷ qs) at x (inl e) = subst (λ z. IsFair go z.driver) (sym e) tt
  fetched_fair p s address (At q ∷ qs) at x (inr i) = fetched_fair p s address qs (suc at) x i
  fetched_fair p s address (Constant b ∷ qs) at x i = fetched_fair p s address qs (suc at) x i

  instance_fair : (p : Path) (wires : List Wire) (pins : List Pin) (f : Frame) (ns : List PortLine) → Fair (instance_rows p wires pins f ns)
  instance_fair p wires pins f [] x i = absurd i
  instance_fair p wires pins f (n ∷ ns) x i =
      fair_both (port_joins n.role outer inner) (instance_rows p wires pins f ns) (by n.role) (instance_fair p wires pins f ns) x i
    where
      outer : List Point
      outer = points p wires (signal_at pins n.name)

      inner : List Point
      inner = wire_points (f ∷ p) n.name 0 n.width

      by : (role : Role) → Fair (port_joins role outer inner)
      by Inner y j = absurd j
      by Inout y j = absurd j
      by Input y j = joins_fair inner outer y j
      by Output y j = joins_fair outer inner y j

  worked_fair : (p : Path) (wires : List Wire) (pins : List Pin) (shape : Shape) → Fair (worked_rows p wires pins shape)
  worked_fair p wires pins shape x i =
      outputs_fair shape (pin_points p wires pins names.A ∷ pin_points p wires pins names.B ∷ pin_points p wires pins names.S ∷ []) (pin_points p wires pins names.Y) 0 x i

  stored_fair : (start : SigBit → Bit) (p : Path) (wires : List Wire) (pins : List Pin) (shape : Shape) (reads : ℕ → StorePoints) → Fair (stored_rows start p wires pins shape reads)
  stored_fair start p wires pins shape reads x i =
      stores_fair start shape reads (signal_at pins (pin_text names.Q)) (pin_points p wires pins names.Q) 0 x i

  kind_fair : (start : SigBit → Bit) (p : Path) (wires : List Wire) (c : Cell) (kind : CellKind) → Fair (kind_rows start p wires c kind)
  kind_fair start p wires c (Word kind) x i = worked_fair p wires c.pins (cell_shape (Word kind) c.params) x i
  kind_fair start p wires c (Gate kind) x i = worked_fair p wires c.pins (cell_shape (Gate kind) c.params) x i
  kind_fair start p wires c (Storage kind) x i =
      stored_fair start p wires c.pins (cell_shape (Storage kind) c.params) (word_store p wires c.pins) x i
  kind_fair start p wires c (StorageGate kind) x i =
      stored_fair start p wires c.pins (cell_shape (StorageGate kind) c.params) (gate_store p wires c.pins) x i
  kind_fair start p wires c (Memory kind) x i = absurd i

  pub cell_fair : (start : SigBit → Bit) (ports : Ports) (p : Path) (wires : List Wire) (c : Cell) (kind : Option CellKind) (x : Driven) → In x (cell_rows start ports p wires c kind) → IsFair go x.driver
  cell_fair start ports p wires c (Some kind) x i = kind_fair start p wires c kind x i
  cell_fair start ports p wires c None x i =
      instance_fair p wires c.pins (frame c.name c.kind_name) (ports c.kind_name) x i

  pub memory_fair : (p : Path) (wires : List Wire) (cells : List Cell) (processes : List Process) (s : Store) (x : Driven) → In x (memory_rows p wires cells processes s) → IsFair go x.driver
  memory_fair p wires cells processes s x i =
      fair_both (word_rows p wires s accesses inits) (flat_map (read_rows p wires s) (reading_cells s.name cells)) words reads x i
    where
      accesses : List Access
      accesses = accesses_of s.name cells processes

      inits : List Cell
      inits = init_cells s.name cells

      words : Fair (word_rows p wires s accesses inits)
      words =
          flat_fair (λ address. map (word_row p wires s accesses inits address) (range_with_len 0 s.width)) (addresses_of s) (λ address. map_fair (word_row p wires s accesses inits address) (range_with_len 0 s.width) (λ at. tt))

      reads : Fair (flat_map (read_rows p wires s) (reading_cells s.name cells))
      reads =
          flat_fair (read_rows p wires s) (reading_cells s.name cells) (λ c y j. fetched_fair p s (points p wires (signal_at c.pins (pin_text names.Addr))) (points p wires (signal_at c.pins (pin_text names.Data))) 0 y j)

-- rows are those of some item
pub cells_row : (start : SigBit → Bit) (ports : Ports) (p : Path) (wires : List Wire) (cs : List Cell) (x : Driven) → In x (cells_rows start ports p wires cs) → (c : Cell) × In c cs × In x (cell_rows start ports p wires c (cell_kind c))
cells_row start ports p wires [] x i = absurd i
cells_row start ports p wires (c ∷ cs) x i =
    ⊎_elim
    (λ l. (c, inl refl, l))
    (λ r. let k = cells_row start ports p wires cs x r in (k.0, inr k.1, k.2))
    (In-cases x (cell_rows start ports p wires c (cell_kind c)) (cells_rows start ports p wires cs) i)

pub row_cells : (start : SigBit → Bit) (ports : Ports) (p : Path) (wires : List Wire) (cs : List Cell) (c : Cell) (x : Driven) → In c cs → In x (cell_rows start ports p wires c (cell_kind c)) → In x (cells_rows start ports p wires cs)
row_cells start ports p wires [] c x j i = absurd j
row_cells start ports p wires (d ∷ cs) c x (inl e) i =
    In-left x (cell_rows start ports p wires d (cell_kind d)) (cells_rows start ports p wires cs) (subst (λ z. In x (cell_rows start ports p wires z (cell_kind z))) e i)
row_cells start ports p wires (d ∷ cs) c x (inr j) i =
    In-right x (cell_rows start ports p wires d (cell_kind d)) (cells_rows start ports p wires cs) (row_cells start ports p wires cs c x j i)

links_row : (p : Path) (wires : List Wire) (ls : List Link) (x : Driven) → In x (link_rows p wires ls) → (l : Link) × In l ls × In x (joins (points p wires l.left) (points p wires l.right))
links_row p wires [] x i = absurd i
links_row p wires (l ∷ ls) x i =
    ⊎_elim
    (λ a. (l, inl refl, a))
    (λ r. let k = links_row p wires ls x r in (k.0, inr k.1, k.2))
    (In-cases x (joins (points p wires l.left) (points p wires l.right)) (link_rows p wires ls) i)

pub row_links : (p : Path) (wires : List Wire) (ls : List Link) (l : Link) (x : Driven) → In l ls → In x (joins (points p wires l.left) (points p wires l.right)) → In x (link_rows p wires ls)
row_links p wires [] l x j i = absurd j
row_links p wires (k ∷ ls) l x (inl e) i =
    In-left x (joins (points p wires k.left) (points p wires k.right)) (link_rows p wires ls) (subst (λ z. In x (joins (points p wires z.left) (points p wires z.right))) e i)
row_links p wires (k ∷ ls) l x (inr j) i =
    In-right x (joins (points p wires k.left) (points p wires k.right)) (link_rows p wires ls) (row_links p wires ls l x j i)

pub flat_row : {A B : Type 0} (f : A → List B) (xs : List A) (x : B) → In x (flat_map f xs) → (a : A) × In a xs × In x (f a)
flat_row f [] x i = absurd i
flat_row f (a ∷ xs) x i =
    ⊎_elim (λ l. (a, inl refl, l)) (λ r. let k = flat_row f xs x r in (k.0, inr k.1, k.2)) (In-cases x (f a) (flat_map f xs) i)

pub row_flat : {A B : Type 0} (f : A → List B) (xs : List A) (a : A) (x : B) → In a xs → In x (f a) → In x (flat_map f xs)
row_flat f [] a x j i = absurd j
row_flat f (b ∷ xs) a x (inl e) i = In-left x (f b) (flat_map f xs) (subst (λ z. In x (f z)) e i)
row_flat f (b ∷ xs) a x (inr j) i = In-right x (f b) (flat_map f xs) (row_flat f xs a x j i)

pub flat_map-append : {A B : Type 0} (f : A → List B) (xs ys : List A) → flat_map f (xs ++ ys) ≡ flat_map f xs ++ flat_map f ys
flat_map-append f [] ys = refl
flat_map-append f (x ∷ xs) ys = ap (λ z. f x ++ z) (flat_map-append f xs ys) ∙ sym (append_assoc (f x) (flat_map f xs) (flat_map f ys))

-- the rows of a module without processes
abbrev pub bare_rows : Ports → Path → Module → List Driven
bare_rows ports p m =
    cells_rows (start_of m.wires []) ports p m.wires m.cells
    ++ (link_rows p m.wires m.links ++ memories_rows p m.wires m.cells [] m.memories)

pub rows_bare : (ports : Ports) (p : Path) (m : Module) → m.processes ≡ [] → rows_of ports p m ≡ bare_rows ports p m
rows_bare ports p m e =
    λ i. cells_rows (start_of m.wires (e i)) ports p m.wires m.cells ++ (link_rows p m.wires m.links ++ (processes_rows (start_of m.wires (e i)) p m.wires m (e i) ++ memories_rows p m.wires m.cells (e i) m.memories))

pub row_of_cells : (ports : Ports) (p : Path) (m : Module) → m.processes ≡ [] → (x : Driven) → In x (cells_rows (start_of m.wires []) ports p m.wires m.cells) → In x (rows_of ports p m)
row_of_cells ports p m e x i =
    subst (In x) (sym (rows_bare ports p m e)) (In-left x (cells_rows (start_of m.wires []) ports p m.wires m.cells) (link_rows p m.wires m.links ++ memories_rows p m.wires m.cells [] m.memories) i)

pub row_of_links : (ports : Ports) (p : Path) (m : Module) → m.processes ≡ [] → (x : Driven) → In x (link_rows p m.wires m.links) → In x (rows_of ports p m)
row_of_links ports p m e x i =
    let memories = memories_rows p m.wires m.cells [] m.memories in
    subst (In x) (sym (rows_bare ports p m e)) (In-right x (cells_rows (start_of m.wires []) ports p m.wires m.cells) (link_rows p m.wires m.links ++ memories) (In-left x (link_rows p m.wires m.links) memories i))

row_of_memories : (ports : Ports) (p : Path) (m : Module) → m.processes ≡ [] → (x : Driven) → In x (memories_rows p m.wires m.cells [] m.memories) → In x (rows_of ports p m)
row_of_memories ports p m e x i =
    let memories = memories_rows p m.wires m.cells [] m.memories in
    subst (In x) (sym (rows_bare ports p m e)) (In-right x (cells_rows (start_of m.wires []) ports p m.wires m.cells) (link_rows p m.wires m.links ++ memories) (In-right x (link_rows p m.wires m.links) memories i))

-- signals of a module at a path, and what they are in another module at another path
pub record Carries (go : Move) (m c : Module) (p p' : Path) (copy : SigBit → SigBit) : Type 0 where
  pub points : (s : SigBit) → BitIn (length m.wires) s → moved_point go (point p m.wires s) ≡ point p' c.wires (copy s)
  pub fixed : (b : Bit) → copy (Fixed b) ≡ Fixed b
  pub constants : (s : SigBit) → constant_of (copy s) ≡ constant_of s
  pub starts : (s : SigBit) → BitIn (length m.wires) s → start_of m.wires [] s ≡ start_of c.wires [] (copy s)

abbrev pub carried_pin : (SigBit → SigBit) → Pin → Pin
carried_pin copy pin = record pin { sig = map copy pin.sig }

abbrev pub carried_link : (SigBit → SigBit) → Link → Link
carried_link copy l = record { left = map copy l.left; right = map copy l.right }

-- a cell and its copy in another module
pub record CellTo (go : Move) (p p' : Path) (copy : SigBit → SigBit) (x y : Cell) : Type 0 where
  pub kind : y.kind_name ≡ x.kind_name
  pub pins : y.pins ≡ map (carried_pin copy) x.pins
  pub shape : (kind : CellKind) → cell_kind x ≡ Some kind → is_memory_kind kind ≡ false → cell_shape kind y.params ≡ cell_shape kind x.params
  pub frames :
      cell_kind x ≡ None → (name : List ℕ) (at : ℕ) →
      go (wire_place (frame x.name x.kind_name ∷ p) name at) ≡ wire_place (frame y.name y.kind_name ∷ p') name at

module _ (go : Move) (m c : Module) (p p' : Path) (copy : SigBit → SigBit) (h : Carries go m c p p' copy) (within : IsWithin m) where
  -- cells of memories with their copies
  abbrev pub AreCopied : List Cell → List Cell → Type 0
  AreCopied = Copies go (length m.wires) m.wires c.wires p p' copy h.points h.fixed h.constants

  -- a memory and its copy
  pub record MemoryTo (s t : Store) : Type 0 where
    pub same : t ≡ record s { name = t.name }
    pub words : (address at : ℕ) → go (word_place p s.name address at) ≡ word_place p' t.name address at
    pub writes : AreCopied (writing s.name m.cells) (writing t.name c.cells)
    pub inits : AreCopied (starting s.name m.cells) (starting t.name c.cells)
    pub reads : AreCopied (reading_cells s.name m.cells) (reading_cells t.name c.cells)

  module _ (ports ports' : Ports) where
    module _ (x y : Cell) (own : CellIn (length m.wires) x) (same : cell_kind x ≡ None → ports x.kind_name ≡ ports' x.kind_name) (g : CellTo go p p' copy x y) where
      kind_goes : (kind : CellKind) → (is_memory_kind kind ≡ false → cell_shape kind y.params ≡ cell_shape kind x.params) → map (moved go) (kind_rows (start_of m.wires []) p m.wires x kind) ≡ kind_rows (start_of c.wires []) p' c.wires y kind
      kind_goes (Word kind) e =
          kind_moved go (length m.wires) m.wires c.wires p p' copy h.points x.pins own (start_of m.wires []) (start_of c.wires []) h.starts x y (Word kind) refl g.pins (e refl)
      kind_goes (Gate kind) e =
          kind_moved go (length m.wires) m.wires c.wires p p' copy h.points x.pins own (start_of m.wires []) (start_of c.wires []) h.starts x y (Gate kind) refl g.pins (e refl)
      kind_goes (Storage kind) e =
          kind_moved go (length m.wires) m.wires c.wires p p' copy h.points x.pins own (start_of m.wires []) (start_of c.wires []) h.starts x y (Storage kind) refl g.pins (e refl)
      kind_goes (StorageGate kind) e =
          kind_moved go (length m.wires) m.wires c.wires p p' copy h.points x.pins own (start_of m.wires []) (start_of c.wires []) h.starts x y (StorageGate kind) refl g.pins (e refl)
      kind_goes (Memory kind) e = refl

      cell_by : (o : Option CellKind) → cell_kind x ≡ o → map (moved go) (cell_rows (start_of m.wires []) ports p m.wires x o) ≡ cell_rows (start_of c.wires []) ports' p' c.wires y o
      cell_by (Some kind) e = kind_goes kind (g.shape kind e)
      cell_by None e =
          instance_moved go (length m.wires) m.wires c.wires p p' copy h.points x.pins own (frame x.name x.kind_name) (frame y.name y.kind_name) (g.frames e) (ports x.kind_name)
          ∙ (λ i. instance_rows p' c.wires (sym g.pins i) (frame y.name y.kind_name) (named i))
        where
          named : ports x.kind_name ≡ ports' y.kind_name
          named = same e ∙ ap ports' (sym g.kind)

      same_kind : cell_kind x ≡ cell_kind y
      unfolding cell_kind
      same_kind = ap kind_of (sym g.kind)

      -- the rows of a cell are those of its copy
      pub cell_moved : map (moved go) (cell_rows (start_of m.wires []) ports p m.wires x (cell_kind x)) ≡ cell_rows (start_of c.wires []) ports' p' c.wires y (cell_kind y)
      cell_moved =
          cell_by (cell_kind x) refl ∙ ap (cell_rows (start_of c.wires []) ports' p' c.wires y) same_kind

      pub cell_goes : In y c.cells → (z : Driven) → In z (cell_rows (start_of m.wires []) ports p m.wires x (cell_kind x)) → In (moved go z) (cells_rows (start_of c.wires []) ports' p' c.wires c.cells)
      cell_goes there z i =
          row_cells (start_of c.wires []) ports' p' c.wires c.cells y (moved go z) there (subst (In (moved go z)) cell_moved (In-map (moved go) z _ i))

    -- cell by cell
    pub cells_moved : (xs ys : List Cell) → Paired (CellTo go p p' copy) xs ys → Each (CellIn (length m.wires)) xs → ((x : Cell) → In x xs → cell_kind x ≡ None → ports x.kind_name ≡ ports' x.kind_name) → map (moved go) (cells_rows (start_of m.wires []) ports p m.wires xs) ≡ cells_rows (start_of c.wires []) ports' p' c.wires ys
    cells_moved [] [] g own same = refl
    cells_moved (x ∷ xs) (y ∷ ys) g own same =
        map-append (moved go) (cell_rows (start_of m.wires []) ports p m.wires x (cell_kind x)) (cells_rows (start_of m.wires []) ports p m.wires xs)
        ∙ (λ i. cell_moved x y (own x (inl refl)) (same x (inl refl)) g.0 i ++ cells_moved xs ys g.1 (λ z j. own z (inr j)) (λ z j. same z (inr j)) i)
    cells_moved [] (y ∷ ys) g own same = absurd g
    cells_moved (x ∷ xs) [] g own same = absurd g

    -- memory by memory
    store_moved : (s t : Store) → MemoryTo s t → map (moved go) (memory_rows p m.wires m.cells [] s) ≡ memory_rows p' c.wires c.cells [] t
    store_moved s t g =
        memory_goes go (length m.wires) m.wires c.wires p p' copy h.points h.fixed h.constants s t.name g.words m.cells c.cells g.writes g.inits g.reads
        ∙ ap (memory_rows p' c.wires c.cells []) (sym g.same)

    pub stores_moved : (ss ts : List Store) → Paired MemoryTo ss ts → map (moved go) (memories_rows p m.wires m.cells [] ss) ≡ memories_rows p' c.wires c.cells [] ts
    stores_moved [] [] g = refl
    stores_moved (s ∷ ss) (t ∷ ts) g =
        map-append (moved go) (memory_rows p m.wires m.cells [] s) (memories_rows p m.wires m.cells [] ss)
        ∙ (λ i. store_moved s t g.0 i ++ stores_moved ss ts g.1 i)
    stores_moved [] (t ∷ ts) g = absurd g
    stores_moved (s ∷ ss) [] g = absurd g

    link_goes : (l : Link) → LinkIn (length m.wires) l → In (carried_link copy l) c.links → (y : Driven) → In y (joins (points p m.wires l.left) (points p m.wires l.right)) → In (moved go y) (link_rows p' c.wires c.links)
    link_goes l own there y i =
        row_links p' c.wires c.links (carried_link copy l) (moved go y) there (subst (In (moved go y)) (joins_moved go (points p m.wires l.left) (points p m.wires l.right) ∙ (λ j. joins (points_moved go (length m.wires) m.wires c.wires p p' copy h.points l.left own.0 j) (points_moved go (length m.wires) m.wires c.wires p p' copy h.points l.right own.1 j))) (In-map (moved go) y _ i))

    store_goes : (s t : Store) → In t c.memories → MemoryTo s t → (y : Driven) → In y (memory_rows p m.wires m.cells [] s) → In (moved go y) (memories_rows p' c.wires c.cells [] c.memories)
    store_goes s t there g y i =
        row_flat (memory_rows p' c.wires c.cells []) c.memories t (moved go y) there (subst (In (moved go y)) (store_moved s t g) (In-map (moved go) y _ i))

    -- all rows of a module, by what becomes of its cells, its connections and its memories
    module _ (plain : m.processes ≡ []) (plain' : c.processes ≡ []) (cells : (x : Cell) → In x m.cells → (y : Driven) → In y (cell_rows (start_of m.wires []) ports p m.wires x (cell_kind x)) → In (moved go y) (rows_of ports' p' c)) (links : (l : Link) → In l m.links → In (carried_link copy l) c.links) (memories : (s : Store) → In s m.memories → (t : Store) × In t c.memories × MemoryTo s t) where
      pub rows_go : (y : Driven) → In y (rows_of ports p m) → GoesInto go (rows_of ports' p' c) y
      rows_go y i =
          ⊎_elim of_cell (λ r. ⊎_elim of_link of_memory (In-cases y (link_rows p m.wires m.links) (memories_rows p m.wires m.cells [] m.memories) r)) (In-cases y (cells_rows (start_of m.wires []) ports p m.wires m.cells) (link_rows p m.wires m.links ++ memories_rows p m.wires m.cells [] m.memories) (subst (In y) (rows_bare ports p m plain) i))
        where
          of_cell : In y (cells_rows (start_of m.wires []) ports p m.wires m.cells) → GoesInto go (rows_of ports' p' c) y
          of_cell a =
              let k = cells_row (start_of m.wires []) ports p m.wires m.cells y a in
              record { fair = cell_fair go (start_of m.wires []) ports p m.wires k.0 (cell_kind k.0) y k.2; into = cells k.0 k.1 y k.2 }

          of_link : In y (link_rows p m.wires m.links) → GoesInto go (rows_of ports' p' c) y
          of_link a =
              let k = links_row p m.wires m.links y a in
              record { fair = joins_fair go (points p m.wires k.0.left) (points p m.wires k.0.right) y k.2; into = row_of_links ports' p' c plain' (moved go y) (link_goes k.0 (within.links k.0 k.1) (links k.0 k.1) y k.2) }

          of_memory : In y (memories_rows p m.wires m.cells [] m.memories) → GoesInto go (rows_of ports' p' c) y
          of_memory a =
              let k = flat_row (memory_rows p m.wires m.cells []) m.memories y a in
              record { fair = memory_fair go p m.wires m.cells [] k.0 y k.2; into = let t = memories k.0 k.1 in row_of_memories ports' p' c plain' (moved go y) (store_goes k.0 t.0 t.1 t.2 y k.2) }
