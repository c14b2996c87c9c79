-- Rows of cells, connections and other memories neither drive nor read a word of the memory of a name.
use Rattle.std.proofs.Common.{◌≡◌, ℕ, zero, suc, List, [], ◌∷◌, ◌++◌, Option, Some, None, inl, inr, ⊎_elim, refl, sym, subst}
use Rattle.std.specs.Prelude.{flat_map, map}
use Rattle.std.specs.List.{range_with_len}
use Rattle.rtl_bits.specs.declared.bit.Bit.{Bit}
use Rattle.rtl_sig.specs.declared.sig.SigBit.{SigBit}
use Rattle.rtl_sig.specs.declared.sig.SigBit.TheVariants.{Fixed, Wire as OnWire}
use Rattle.cell_types.specs.declared.kind.CellKind.{CellKind}
use Rattle.cell_types.specs.declared.kind.CellKind.TheVariants.{Word, Gate, Storage, StorageGate, Memory}
use Rattle.cell_types.specs.declared.pin_name.PinName.{PinName}
use Rattle.cell_types.specs.declared.pin_name.PinName.TheVariants.{A, B, S, Y, Clk, En, Arst, Srst, Aload, Set, Clr, Ad, Addr, D, Data, Q, C, E, R, L}
use Rattle.cell_types.specs.declared.shape.Shape.{Shape}
use Rattle.cell_types.specs.PinName.{pin_text}
use Rattle.rtl_ir.specs.declared.cell.Cell.{Cell}
use Rattle.rtl_ir.specs.declared.cell.Pin.{Pin}
use Rattle.rtl_ir.specs.declared.module.Link.{Link}
use Rattle.rtl_ir.specs.declared.ports.PortLine.{PortLine}
use Rattle.rtl_ir.specs.declared.process.Process.{Process}
use Rattle.rtl_ir.specs.declared.store.Store.{Store}
use Rattle.rtl_ir.specs.declared.wire.Role.{Role}
use Rattle.rtl_ir.specs.declared.wire.Role.TheVariants.{Inner, Input, Output, Inout}
use Rattle.rtl_ir.specs.declared.wire.Wire.{Wire}
use Rattle.rtl_ir.specs.Flat.Access.{Access, accesses_of, first_trigger}
use Rattle.rtl_ir.specs.Flat.Cell.{Ports, cell_kind, cell_rows, cell_shape, cells_rows, gate_store, instance_rows, kind_rows, outputs, port_joins, stored_rows, stores, word_store, worked_rows}
use Rattle.rtl_ir.specs.Flat.Driver.{Driven, StorePoints}
use Rattle.rtl_ir.specs.Flat.Link.{joins, link_rows}
use Rattle.rtl_ir.specs.Flat.Memory.{addresses_of, fetched_rows, init_cells, memories_rows, memory_rows, port_points, read_rows, reading_cells, word_row, words_at}
use Rattle.rtl_ir.specs.Flat.Place.{Frame, OfWire, OfWord, Path, Place, Spot, frame, word_place}
use Rattle.rtl_ir.specs.Flat.Point.{At, Constant, Point, pin_points, point, point_at, points, wire_points}
use Rattle.rtl_ir.specs.Flat.Reads.{port_list, read_points, store_list}
use Rattle.rtl_ir.specs.Flat.Tree.{places}
use Rattle.rtl_ir.specs.Parameters.{signal_at}
use Rattle.net_model.proofs.Members.{In-cases, In-mapped}
use Rattle.net_model.specs.Lists.{In}
use Rattle.net_model.specs.Within.{Each}

module _ (name : List ℕ) where
  -- a bit of a wire, or of a word of another memory
  abbrev pub IsFreeSpot : Spot → Type 0
  IsFreeSpot (OfWire n k) = Unit {0}
  IsFreeSpot (OfWord n i k) = n ≡ name → ⊥

  abbrev pub IsFree : Point → Type 0
  IsFree (Constant b) = Unit {0}
  IsFree (At q) = IsFreeSpot q.spot

  abbrev pub AreFree : List Point → Type 0
  AreFree [] = Unit {0}
  AreFree (s ∷ ps) = IsFree s × AreFree ps

  -- a row drives no word of the memory, and reads none
  pub record IsFreeRow (x : Driven) : Type 0 where
    pub place : IsFreeSpot x.place.spot
    pub read : AreFree (read_points x.driver)

  abbrev pub AreFreeRows : List Driven → Type 0
  AreFreeRows xs = (x : Driven) → In x xs → IsFreeRow x

  pub free_places : (ps : List Point) → AreFree ps → (q : Place) → In q (places ps) → IsFreeSpot q.spot
  free_places [] h q i = absurd i
  free_places (Constant b ∷ ps) h q i = free_places ps h.1 q i
  free_places (At r ∷ ps) h q (inl e) = subst (λ (z : Place). IsFreeSpot z.spot) (sym e) h.0
  free_places (At r ∷ ps) h q (inr i) = free_places ps h.1 q i

  free_at : (ps : List Point) → AreFree ps → (at : ℕ) → IsFree (point_at ps at)
  free_at [] h at = tt
  free_at (s ∷ ps) h zero = h.0
  free_at (s ∷ ps) h (suc at) = free_at ps h.1 at

  free_append : (ps qs : List Point) → AreFree ps → AreFree qs → AreFree (ps ++ qs)
  free_append [] qs h i = i
  free_append (s ∷ ps) qs h i = (h.0, free_append ps qs h.1 i)

  free_both : (xs ys : List Driven) → AreFreeRows xs → AreFreeRows ys → AreFreeRows (xs ++ ys)
  free_both xs ys h i x j = ⊎_elim (λ l. h x l) (λ r. i x r) (In-cases x xs ys j)

  free_map : {A : Type 0} (f : A → Driven) → ((a : A) → IsFreeRow (f a)) → (as' : List A) → AreFreeRows (map f as')
  free_map f h as' x i = let m = In-mapped f x as' i in subst IsFreeRow (sym m.2) (h m.0)

  free_flat_map : {A : Type 0} (f : A → List Driven) → ((a : A) → AreFreeRows (f a)) → (as' : List A) → AreFreeRows (flat_map f as')
  free_flat_map f h [] = λ x i. absurd i
  free_flat_map f h (a ∷ as') = free_both (f a) (flat_map f as') (h a) (free_flat_map f h as')

  free_wire : (p : Path) (n : List ℕ) (at width : ℕ) → AreFree (wire_points p n at width)
  free_wire p n at zero = tt
  free_wire p n at (suc width) = (tt, free_wire p n (suc at) width)

  free_joins : (ls rs : List Point) → AreFree ls → AreFree rs → AreFreeRows (joins ls rs)
  free_joins [] rs h i x j = absurd j
  free_joins (l ∷ ls) [] h i x j = absurd j
  free_joins (Constant b ∷ ls) (r ∷ rs) h i x j = free_joins ls rs h.1 i.1 x j
  free_joins (At q ∷ ls) (r ∷ rs) h i x (inl e) = subst IsFreeRow (sym e) (record { place = h.0; read = (i.0, tt) })
  free_joins (At q ∷ ls) (r ∷ rs) h i x (inr j) = free_joins ls rs h.1 i.1 x j

  free_outputs : (shape : Shape) (inputs : List (List Point)) → AreFree (flat_map (λ word. word) inputs) → (ys : List Point) → AreFree ys → (at : ℕ) → AreFreeRows (outputs shape inputs ys at)
  free_outputs shape inputs g [] h at x i = absurd i
  free_outputs shape inputs g (At q ∷ ys) h at x (inl e) = subst IsFreeRow (sym e) (record { place = h.0; read = g })
  free_outputs shape inputs g (At q ∷ ys) h at x (inr i) = free_outputs shape inputs g ys h.1 (suc at) x i
  free_outputs shape inputs g (Constant b ∷ ys) h at x i = free_outputs shape inputs g ys h.1 (suc at) x i

  free_stores : (start : SigBit → Bit) (shape : Shape) (pins : ℕ → StorePoints) → ((at : ℕ) → AreFree (store_list (pins at))) → (ss : List SigBit) (qs : List Point) → AreFree qs → (at : ℕ) → AreFreeRows (stores start shape pins ss qs at)
  free_stores start shape pins g [] qs h at x i = absurd i
  free_stores start shape pins g (s ∷ ss) [] h at x i = absurd i
  free_stores start shape pins g (s ∷ ss) (At q ∷ qs) h at x (inl e) =
      subst IsFreeRow (sym e) (record { place = h.0; read = (h.0, g at) })
  free_stores start shape pins g (s ∷ ss) (At q ∷ qs) h at x (inr i) = free_stores start shape pins g ss qs h.1 (suc at) x i
  free_stores start shape pins g (s ∷ ss) (Constant b ∷ qs) h at x i = free_stores start shape pins g ss qs h.1 (suc at) x i

  module _ (p : Path) (wires : List Wire) where
    free_point : (s : SigBit) → IsFree (point p wires s)
    free_point (Fixed b) = tt
    free_point (OnWire b) = tt

    free_points : (ss : List SigBit) → AreFree (points p wires ss)
    free_points [] = tt
    free_points (s ∷ ss) = (free_point s, free_points ss)

    free_pin : (pins : List Pin) (n : PinName) (at : ℕ) → IsFree (point_at (pin_points p wires pins n) at)
    free_pin pins n at = free_at (pin_points p wires pins n) (free_points (signal_at pins (pin_text n))) at

    free_word_store : (pins : List Pin) (at : ℕ) → AreFree (store_list (word_store p wires pins at))
    free_word_store pins at =
        (free_pin pins Clk 0, (free_pin pins En 0, (free_pin pins Arst 0, (free_pin pins Srst 0, (free_pin pins Aload 0, (free_pin pins Ad at, (free_pin pins Set at, (free_pin pins Clr at, (free_pin pins D at, tt)))))))))

    free_gate_store : (pins : List Pin) (at : ℕ) → AreFree (store_list (gate_store p wires pins at))
    free_gate_store pins at =
        (free_pin pins C 0, (free_pin pins E 0, (free_pin pins R 0, (free_pin pins R 0, (free_pin pins L 0, (free_pin pins Ad 0, (free_pin pins S 0, (free_pin pins R 0, (free_pin pins D 0, tt)))))))))

    free_stored : (start : SigBit → Bit) (pins : List Pin) (shape : Shape) (reads : ℕ → StorePoints) → ((at : ℕ) → AreFree (store_list (reads at))) → AreFreeRows (stored_rows start p wires pins shape reads)
    free_stored start pins shape reads h =
        free_stores start shape reads h (signal_at pins (pin_text Q)) (pin_points p wires pins Q) (free_points (signal_at pins (pin_text Q))) 0

    free_worked : (pins : List Pin) (shape : Shape) → AreFreeRows (worked_rows p wires pins shape)
    free_worked pins shape =
        let own = λ (n : PinName). free_points (signal_at pins (pin_text n)) in
        free_outputs shape (pin_points p wires pins A ∷ pin_points p wires pins B ∷ pin_points p wires pins S ∷ [])
        (free_append (pin_points p wires pins A) _ (own A) (free_append (pin_points p wires pins B) _ (own B) (free_append (pin_points p wires pins S) [] (own S) tt)))
        (pin_points p wires pins Y) (own Y) 0

    free_kind : (start : SigBit → Bit) (c : Cell) (kind : CellKind) → AreFreeRows (kind_rows start p wires c kind)
    free_kind start c (Word kind) = free_worked c.pins (cell_shape (Word kind) c.params)
    free_kind start c (Gate kind) = free_worked c.pins (cell_shape (Gate kind) c.params)
    free_kind start c (Storage kind) =
        free_stored start c.pins (cell_shape (Storage kind) c.params) (word_store p wires c.pins) (free_word_store c.pins)
    free_kind start c (StorageGate gate) =
        free_stored start c.pins (cell_shape (StorageGate gate) c.params) (gate_store p wires c.pins) (free_gate_store c.pins)
    free_kind start c (Memory kind) = λ x i. absurd i

    free_port : (role : Role) (outer inner : List Point) → AreFree outer → AreFree inner → AreFreeRows (port_joins role outer inner)
    free_port Inner outer inner h i = λ x j. absurd j
    free_port Input outer inner h i = free_joins inner outer i h
    free_port Output outer inner h i = free_joins outer inner h i
    free_port Inout outer inner h i = λ x j. absurd j

    free_instance : (pins : List Pin) (f : Frame) (lines : List PortLine) → AreFreeRows (instance_rows p wires pins f lines)
    free_instance pins f [] = λ x j. absurd j
    free_instance pins f (line ∷ lines) =
        free_both (port_joins line.role (points p wires (signal_at pins line.name)) (wire_points (f ∷ p) line.name 0 line.width)) (instance_rows p wires pins f lines)
        (free_port line.role _ _ (free_points (signal_at pins line.name)) (free_wire (f ∷ p) line.name 0 line.width)) (free_instance pins f lines)

    free_cell : (start : SigBit → Bit) (ports : Ports) (c : Cell) (o : Option CellKind) → AreFreeRows (cell_rows start ports p wires c o)
    free_cell start ports c (Some kind) = free_kind start c kind
    free_cell start ports c None = free_instance c.pins (frame c.name c.kind_name) (ports c.kind_name)

    pub free_cells : (start : SigBit → Bit) (ports : Ports) (cells : List Cell) → AreFreeRows (cells_rows start ports p wires cells)
    free_cells start ports [] = λ x j. absurd j
    free_cells start ports (c ∷ cells) =
        free_both (cell_rows start ports p wires c (cell_kind c)) (cells_rows start ports p wires cells) (free_cell start ports c (cell_kind c)) (free_cells start ports cells)

    pub free_links : (ls : List Link) → AreFreeRows (link_rows p wires ls)
    free_links [] = λ x i. absurd i
    free_links (l ∷ ls) =
        free_both (joins (points p wires l.left) (points p wires l.right)) (link_rows p wires ls) (free_joins _ _ (free_points l.left) (free_points l.right)) (free_links ls)

    free_ports : (at : ℕ) (before accesses : List Access) → AreFree (flat_map port_list (port_points p wires at before accesses))
    free_ports at before [] = tt
    free_ports at before (a ∷ accesses) = (
      free_at (points p wires a.enable) (free_points a.enable) at,
      (
        free_at (points p wires a.new) (free_points a.new) at,
        free_append (points p wires a.address) _ (free_points a.address) (free_ports at (before ++ a ∷ []) accesses),
      ),
    )

    module _ (s : Store) (other : s.name ≡ name → ⊥) where
      free_word : (accesses : List Access) (inits : List Cell) (address at : ℕ) → IsFreeRow (word_row p wires s accesses inits address at)
      free_word accesses inits address at = record {
        place = other;
        read = (other, (free_at _ (free_points (first_trigger accesses).signal) 0, free_ports at [] accesses));
      }

      free_words : (at : ℕ) (addresses : List ℕ) → AreFree (map (λ address. At (word_place p s.name address at)) addresses)
      free_words at [] = tt
      free_words at (a ∷ addresses) = (other, free_words at addresses)

      free_fetched : (address : List Point) → AreFree address → (ds : List Point) → AreFree ds → (at : ℕ) → AreFreeRows (fetched_rows p s address ds at)
      free_fetched address h [] i at x j = absurd j
      free_fetched address h (Constant b ∷ ds) i at x j = free_fetched address h ds i.1 (suc at) x j
      free_fetched address h (At q ∷ ds) i at x (inr j) = free_fetched address h ds i.1 (suc at) x j
      free_fetched address h (At q ∷ ds) i at x (inl e) =
          subst IsFreeRow (sym e) (record { place = i.0; read = free_append address (words_at p s at) h (free_words at (addresses_of s)) })

      free_read : (c : Cell) → AreFreeRows (read_rows p wires s c)
      free_read c =
          free_fetched (points p wires (signal_at c.pins (pin_text Addr))) (free_points _) (points p wires (signal_at c.pins (pin_text Data))) (free_points _) 0

      free_memory : (cells : List Cell) (processes : List Process) → AreFreeRows (memory_rows p wires cells processes s)
      free_memory cells processes =
          let accesses = accesses_of s.name cells processes in
          let inits = init_cells s.name cells in
          free_both _ _
          (free_flat_map _ (λ address. free_map (word_row p wires s accesses inits address) (free_word accesses inits address) (range_with_len 0 s.width)) (addresses_of s))
          (free_flat_map (read_rows p wires s) free_read (reading_cells s.name cells))

    -- memories of other names
    pub free_memories : (cells : List Cell) (processes : List Process) (ss : List Store) → Each (λ (s : Store). s.name ≡ name → ⊥) ss → AreFreeRows (memories_rows p wires cells processes ss)
    free_memories cells processes [] h = λ x i. absurd i
    free_memories cells processes (s ∷ ss) h =
        free_both (memory_rows p wires cells processes s) (memories_rows p wires cells processes ss) (free_memory s (h s (inl refl)) cells processes) (free_memories cells processes ss (λ r i. h r (inr i)))
