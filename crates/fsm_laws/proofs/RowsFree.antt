-- Rows of cells and of memories whose pins carry nothing of the state neither drive nor read what carries some.
use Rattle.std.proofs.Common.{◌≡◌, ℕ, zero, suc, List, [], ◌∷◌, ◌++◌, length, Option, Some, None, inl, inr, ⊎_elim, refl, sym, ◌∙◌, ap, subst, arith}
use Rattle.std.specs.Prelude.{flat_map, map}
use Rattle.std.specs.List.{range_with_len}
use Rattle.rtl_bits.specs.declared.bit.Bit.{Bit}
use Rattle.rtl_sig.specs.declared.sig.SigBit.{SigBit}
use Rattle.rtl_sig.specs.declared.sig.SigBit.TheVariants.{Fixed, Wire as OnWire}
use Rattle.cell_types.specs.declared.kind.CellKind.{CellKind}
use Rattle.cell_types.specs.declared.kind.CellKind.TheVariants.{Word, Gate, Storage, StorageGate, Memory}
use Rattle.cell_types.specs.declared.pin_name.PinName.{PinName}
use Rattle.cell_types.specs.declared.pin_name.PinName.TheVariants.{A, B, S, Y, Clk, En, Arst, Srst, Aload, Set, Clr, Ad, Addr, D, Data, Q, C, E, R, L}
use Rattle.cell_types.specs.declared.shape.Shape.{Shape}
use Rattle.cell_types.specs.PinName.{pin_text}
use Rattle.rtl_ir.specs.declared.cell.Cell.{Cell}
use Rattle.rtl_ir.specs.declared.cell.Pin.{Pin}
use Rattle.rtl_ir.specs.declared.module.Link.{Link}
use Rattle.rtl_ir.specs.declared.ports.PortLine.{PortLine}
use Rattle.rtl_ir.specs.declared.store.Store.{Store}
use Rattle.rtl_ir.specs.declared.wire.Role.{Role}
use Rattle.rtl_ir.specs.declared.wire.Role.TheVariants.{Inner, Input, Output, Inout}
use Rattle.rtl_ir.specs.declared.wire.Wire.{Wire}
use Rattle.rtl_ir.specs.Flat.Access.{Access, first_trigger}
use Rattle.rtl_ir.specs.Flat.Cell.{Ports, cell_rows, cell_shape, gate_store, instance_rows, outputs, port_joins, stored_rows, stores, word_store, worked_rows}
use Rattle.rtl_ir.specs.Flat.Driver.{Driven, StorePoints}
use Rattle.rtl_ir.specs.Flat.Link.{joins}
use Rattle.rtl_ir.specs.Flat.Memory.{addresses_of, fetched_rows, port_points, read_rows, word_row, word_rows, words_at}
use Rattle.rtl_ir.specs.Flat.Place.{Frame, Path, Place, frame, word_place}
use Rattle.rtl_ir.specs.Flat.Point.{At, Constant, Point, pin_points, point, point_at, points, wire_points}
use Rattle.rtl_ir.specs.Flat.Reads.{port_list, read_points, store_list}
use Rattle.rtl_ir.specs.Flat.Tree.{places}
use Rattle.rtl_ir.specs.Parameters.{signal_at}
use Rattle.net_model.proofs.Members.{In-cases, In-mapped}
use Rattle.net_model.specs.Fsm.Code.{Output as CodeOutput}
use Rattle.net_model.specs.Lists.{Distinct, In}
use Rattle.net_model.specs.Within.{Each}
use Rattle.fsm_laws.proofs.Carrying.{spot_is}
use Rattle.fsm_laws.specs.Carried.{spot_carrier}
use Rattle.fsm_laws.specs.Recodes.{IsFree, IsFreeRow}

module _ (links : List Link) (own fresh : List Wire) (named : Distinct (map (λ (w : Wire). w.name) own)) (coded : List CodeOutput) (p : Path) where
  abbrev wires : List Wire
  wires = own ++ fresh

  -- a constant, or a bit that carries nothing
  abbrev pub IsFreePoint : Point → Type 0
  IsFreePoint (Constant b) = Unit {0}
  IsFreePoint (At q) = q.path ≡ p → spot_carrier links own coded q.spot ≡ None

  abbrev pub AreFree : List Point → Type 0
  AreFree [] = Unit {0}
  AreFree (s ∷ ps) = IsFreePoint s × AreFree ps

  abbrev pub AreFreeRows : List Driven → Type 0
  AreFreeRows xs = (x : Driven) → In x xs → IsFreeRow links own coded p x

  free_places : (ps : List Point) → AreFree ps → (q : Place) → In q (places ps) → IsFreePoint (At q)
  free_places [] h q i = absurd i
  free_places (Constant b ∷ ps) h q i = free_places ps h.1 q i
  free_places (At r ∷ ps) h q (inl e) = subst (λ (z : Place). IsFreePoint (At z)) (sym e) h.0
  free_places (At r ∷ ps) h q (inr i) = free_places ps h.1 q i

  -- a row by what it drives and reads
  free_row : (x : Driven) → IsFreePoint (At x.place) → AreFree (read_points x.driver) → IsFreeRow links own coded p x
  free_row x h i = record { place = h; read = λ q j. free_places (read_points x.driver) i q j }

  free_at : (ps : List Point) → AreFree ps → (at : ℕ) → IsFreePoint (point_at ps at)
  free_at [] h at = tt
  free_at (s ∷ ps) h zero = h.0
  free_at (s ∷ ps) h (suc at) = free_at ps h.1 at

  free_append : (ps qs : List Point) → AreFree ps → AreFree qs → AreFree (ps ++ qs)
  free_append [] qs h i = i
  free_append (s ∷ ps) qs h i = (h.0, free_append ps qs h.1 i)

  free_both : (xs ys : List Driven) → AreFreeRows xs → AreFreeRows ys → AreFreeRows (xs ++ ys)
  free_both xs ys h i x j = ⊎_elim (λ l. h x l) (λ r. i x r) (In-cases x xs ys j)

  free_map : {A : Type 0} (f : A → Driven) → ((a : A) → IsFreeRow links own coded p (f a)) → (as' : List A) → AreFreeRows (map f as')
  free_map f h as' x i = let m = In-mapped f x as' i in subst (IsFreeRow links own coded p) (sym m.2) (h m.0)

  pub free_flat_map : {A : Type 0} (f : A → List Driven) (as' : List A) → ((a : A) → In a as' → AreFreeRows (f a)) → AreFreeRows (flat_map f as')
  free_flat_map f [] h = λ x i. absurd i
  free_flat_map f (a ∷ as') h =
      free_both (f a) (flat_map f as') (h a (inl refl)) (free_flat_map f as' (λ b i. h b (inr i)))

  longer : (f : Frame) → f ∷ p ≡ p → ⊥
  longer f e = let n : length (f ∷ p) ≡ length p = ap length e in absurd (omega arith)

  -- bits of an instance are none of the module
  free_wire : (f : Frame) (n : List ℕ) (at width : ℕ) → AreFree (wire_points (f ∷ p) n at width)
  free_wire f n at zero = tt
  free_wire f n at (suc width) = ((λ e. absurd (longer f e)), free_wire f n (suc at) width)

  free_joins : (ls rs : List Point) → AreFree ls → AreFree rs → AreFreeRows (joins ls rs)
  free_joins [] rs h i x j = absurd j
  free_joins (l ∷ ls) [] h i x j = absurd j
  free_joins (Constant b ∷ ls) (r ∷ rs) h i x j = free_joins ls rs h.1 i.1 x j
  free_joins (At q ∷ ls) (r ∷ rs) h i x (inl e) =
      subst (IsFreeRow links own coded p) (sym e) (free_row _ h.0 (i.0, tt))
  free_joins (At q ∷ ls) (r ∷ rs) h i x (inr j) = free_joins ls rs h.1 i.1 x j

  free_outputs : (shape : Shape) (inputs : List (List Point)) → AreFree (flat_map (λ word. word) inputs) → (ys : List Point) → AreFree ys → (at : ℕ) → AreFreeRows (outputs shape inputs ys at)
  free_outputs shape inputs g [] h at x i = absurd i
  free_outputs shape inputs g (At q ∷ ys) h at x (inl e) =
      subst (IsFreeRow links own coded p) (sym e) (free_row _ h.0 g)
  free_outputs shape inputs g (At q ∷ ys) h at x (inr i) = free_outputs shape inputs g ys h.1 (suc at) x i
  free_outputs shape inputs g (Constant b ∷ ys) h at x i = free_outputs shape inputs g ys h.1 (suc at) x i

  free_stores : (start : SigBit → Bit) (shape : Shape) (pins : ℕ → StorePoints) → ((at : ℕ) → AreFree (store_list (pins at))) → (ss : List SigBit) (qs : List Point) → AreFree qs → (at : ℕ) → AreFreeRows (stores start shape pins ss qs at)
  free_stores start shape pins g [] qs h at x i = absurd i
  free_stores start shape pins g (s ∷ ss) [] h at x i = absurd i
  free_stores start shape pins g (s ∷ ss) (At q ∷ qs) h at x (inl e) =
      subst (IsFreeRow links own coded p) (sym e) (free_row _ h.0 (h.0, g at))
  free_stores start shape pins g (s ∷ ss) (At q ∷ qs) h at x (inr i) = free_stores start shape pins g ss qs h.1 (suc at) x i
  free_stores start shape pins g (s ∷ ss) (Constant b ∷ qs) h at x i = free_stores start shape pins g ss qs h.1 (suc at) x i

  pub free_point : (s : SigBit) → IsFree links own coded s → IsFreePoint (point p wires s)
  free_point (Fixed b) h = tt
  free_point (OnWire b) h = λ e. spot_is links own fresh named coded b h.own ∙ h.none

  pub free_points : (ss : List SigBit) → Each (IsFree links own coded) ss → AreFree (points p wires ss)
  free_points [] h = tt
  free_points (s ∷ ss) h = (free_point s (h s (inl refl)), free_points ss (λ t i. h t (inr i)))

  -- a cell of which all pins are free
  module _ (pins : List Pin) (free : (name : List ℕ) → Each (IsFree links own coded) (signal_at pins name)) where
    free_pins : (n : PinName) → AreFree (pin_points p wires pins n)
    free_pins n = free_points (signal_at pins (pin_text n)) (free (pin_text n))

    free_pin : (n : PinName) (at : ℕ) → IsFreePoint (point_at (pin_points p wires pins n) at)
    free_pin n at = free_at (pin_points p wires pins n) (free_pins n) at

    free_word_store : (at : ℕ) → AreFree (store_list (word_store p wires pins at))
    free_word_store at =
        (free_pin Clk 0, (free_pin En 0, (free_pin Arst 0, (free_pin Srst 0, (free_pin Aload 0, (free_pin Ad at, (free_pin Set at, (free_pin Clr at, (free_pin D at, tt)))))))))

    free_gate_store : (at : ℕ) → AreFree (store_list (gate_store p wires pins at))
    free_gate_store at =
        (free_pin C 0, (free_pin E 0, (free_pin R 0, (free_pin R 0, (free_pin L 0, (free_pin Ad 0, (free_pin S 0, (free_pin R 0, (free_pin D 0, tt)))))))))

    free_stored : (start : SigBit → Bit) (shape : Shape) (reads : ℕ → StorePoints) → ((at : ℕ) → AreFree (store_list (reads at))) → AreFreeRows (stored_rows start p wires pins shape reads)
    free_stored start shape reads h =
        free_stores start shape reads h (signal_at pins (pin_text Q)) (pin_points p wires pins Q) (free_pins Q) 0

    free_worked : (shape : Shape) → AreFreeRows (worked_rows p wires pins shape)
    free_worked shape =
        free_outputs shape (pin_points p wires pins A ∷ pin_points p wires pins B ∷ pin_points p wires pins S ∷ [])
        (free_append (pin_points p wires pins A) _ (free_pins A) (free_append (pin_points p wires pins B) _ (free_pins B) (free_append (pin_points p wires pins S) [] (free_pins S) tt)))
        (pin_points p wires pins Y) (free_pins Y) 0

    free_port : (role : Role) (outer inner : List Point) → AreFree outer → AreFree inner → AreFreeRows (port_joins role outer inner)
    free_port Inner outer inner h i = λ x j. absurd j
    free_port Input outer inner h i = free_joins inner outer i h
    free_port Output outer inner h i = free_joins outer inner h i
    free_port Inout outer inner h i = λ x j. absurd j

    free_instance : (f : Frame) (lines : List PortLine) → AreFreeRows (instance_rows p wires pins f lines)
    free_instance f [] = λ x j. absurd j
    free_instance f (line ∷ lines) =
        free_both (port_joins line.role (points p wires (signal_at pins line.name)) (wire_points (f ∷ p) line.name 0 line.width)) (instance_rows p wires pins f lines)
        (free_port line.role _ _ (free_points (signal_at pins line.name) (free line.name)) (free_wire f line.name 0 line.width)) (free_instance f lines)

    free_fetched : (s : Store) (address : List Point) → AreFree address → (ds : List Point) → AreFree ds → (at : ℕ) → AreFreeRows (fetched_rows p s address ds at)
    free_fetched s address h [] i at x j = absurd j
    free_fetched s address h (Constant b ∷ ds) i at x j = free_fetched s address h ds i.1 (suc at) x j
    free_fetched s address h (At q ∷ ds) i at x (inr j) = free_fetched s address h ds i.1 (suc at) x j
    free_fetched s address h (At q ∷ ds) i at x (inl e) =
        subst (IsFreeRow links own coded p) (sym e) (free_row _ i.0 (free_append address (words_at p s at) h (free_words at (addresses_of s))))
      where
        free_words : (at : ℕ) (addresses : List ℕ) → AreFree (map (λ address. At (word_place p s.name address at)) addresses)
        free_words at [] = tt
        free_words at (a ∷ addresses) = ((λ e. refl), free_words at addresses)

  pub free_cell : (start : SigBit → Bit) (ports : Ports) (c : Cell) → ((name : List ℕ) → Each (IsFree links own coded) (signal_at c.pins name)) → (o : Option CellKind) → AreFreeRows (cell_rows start ports p wires c o)
  free_cell start ports c free (Some (Word kind)) = free_worked c.pins free (cell_shape (Word kind) c.params)
  free_cell start ports c free (Some (Gate kind)) = free_worked c.pins free (cell_shape (Gate kind) c.params)
  free_cell start ports c free (Some (Storage kind)) =
      free_stored c.pins free start (cell_shape (Storage kind) c.params) (word_store p wires c.pins) (free_word_store c.pins free)
  free_cell start ports c free (Some (StorageGate gate)) =
      free_stored c.pins free start (cell_shape (StorageGate gate) c.params) (gate_store p wires c.pins) (free_gate_store c.pins free)
  free_cell start ports c free (Some (Memory kind)) = λ x i. absurd i
  free_cell start ports c free None = free_instance c.pins free (frame c.name c.kind_name) (ports c.kind_name)

  -- a read port
  pub free_read : (s : Store) (c : Cell) → ((name : List ℕ) → Each (IsFree links own coded) (signal_at c.pins name)) → AreFreeRows (read_rows p wires s c)
  free_read s c free =
      free_fetched c.pins free s (points p wires (signal_at c.pins (pin_text Addr))) (free_points _ (free (pin_text Addr))) (points p wires (signal_at c.pins (pin_text Data))) (free_points _ (free (pin_text Data))) 0

  -- write ports
  pub record IsFreeAccess (a : Access) : Type 0 where
    pub clock : Each (IsFree links own coded) a.clock.signal
    pub address : Each (IsFree links own coded) a.address
    pub new : Each (IsFree links own coded) a.new
    pub enable : Each (IsFree links own coded) a.enable

  free_ports : (at : ℕ) (before accesses : List Access) → Each IsFreeAccess accesses → AreFree (flat_map port_list (port_points p wires at before accesses))
  free_ports at before [] h = tt
  free_ports at before (a ∷ accesses) h =
      let here = h a (inl refl) in (
        free_at (points p wires a.enable) (free_points a.enable here.enable) at,
        (
          free_at (points p wires a.new) (free_points a.new here.new) at,
          free_append (points p wires a.address) _ (free_points a.address here.address) (free_ports at (before ++ a ∷ []) accesses (λ b i. h b (inr i))),
        ),
      )

  free_trigger : (accesses : List Access) → Each IsFreeAccess accesses → AreFree (points p wires (first_trigger accesses).signal)
  free_trigger [] h = (tt, tt)
  free_trigger (a ∷ accesses) h = free_points a.clock.signal (h a (inl refl)).clock

  -- the words of a memory with such ports
  pub free_words_of : (s : Store) (accesses : List Access) (inits : List Cell) → Each IsFreeAccess accesses → AreFreeRows (word_rows p wires s accesses inits)
  free_words_of s accesses inits h =
      free_flat_map (λ address. map (word_row p wires s accesses inits address) (range_with_len 0 s.width)) (addresses_of s)
      (λ address i. free_map (word_row p wires s accesses inits address) (λ at. free_row (word_row p wires s accesses inits address at) (λ e. refl) ((λ e. refl), (free_at _ (free_trigger accesses h) 0, free_ports at [] accesses h))) (range_with_len 0 s.width))
