-- What the rows of a cell drive and read: bits of its pins, and ports of instances.
use Rattle.std.proofs.Common.{◌≡◌, ℕ, zero, suc, Bool, true, false, cond, List, [], ◌∷◌, ◌++◌, Option, Some, None, ◌⊎◌, inl, inr, ⊎_elim, refl, sym, ap, subst, if◌then◌else◌, ◌∙◌}
use Rattle.std.specs.Prelude.{flat_map, find}
use Rattle.std.specs.Option.{option_map_or}
use Rattle.std.specs.Str.{bytes_eq}
use Rattle.rtl_bits.specs.declared.bit.Bit.{Bit}
use Rattle.rtl_sig.specs.declared.sig.SigBit.{SigBit}
use Rattle.rtl_sig.specs.declared.sig.SigBit.TheVariants.{Fixed, Wire as OnWire}
use Rattle.rtl_sig.specs.declared.sig.WireBit.{WireBit}
use Rattle.cell_types.specs.declared.kind.CellKind.{CellKind}
use Rattle.cell_types.specs.declared.kind.CellKind.TheVariants.{Word, Gate, Storage, StorageGate, Memory}
use Rattle.cell_types.specs.declared.pin_name.PinName.{PinName}
use Rattle.cell_types.specs.declared.pin_name.PinName.TheVariants.{A, B, S, Y, Clk, En, Arst, Srst, Aload, Set, Clr, Ad, D, Q, C, E, R, L}
use Rattle.cell_types.specs.declared.shape.Shape.{Shape}
use Rattle.cell_types.specs.PinName.{pin_text}
use Rattle.rtl_ir.specs.declared.cell.Cell.{Cell}
use Rattle.rtl_ir.specs.declared.cell.Pin.{Pin}
use Rattle.rtl_ir.specs.declared.ports.PortLine.{PortLine}
use Rattle.rtl_ir.specs.declared.wire.Role.{Role}
use Rattle.rtl_ir.specs.declared.wire.Role.TheVariants.{Inner, Input, Output, Inout}
use Rattle.rtl_ir.specs.declared.wire.Wire.{Wire}
use Rattle.rtl_ir.specs.Flat.Cell.{Ports, cell_rows, cell_shape, gate_store, instance_rows, instance_of, kind_rows, listed, outputs, port_joins, stores, word_store}
use Rattle.rtl_ir.specs.Flat.Driver.{Driven, StorePoints, Joined}
use Rattle.rtl_ir.specs.Flat.Link.{joins}
use Rattle.rtl_ir.specs.Flat.Place.{Frame, frame, Path, Place}
use Rattle.rtl_ir.specs.Flat.Point.{At, Constant, Point, bit_place, pin_points, point_at, points, wire_points}
use Rattle.rtl_ir.specs.Flat.Reads.{read_points, reads, store_list}
use Rattle.rtl_ir.specs.Flat.Tree.{places}
use Rattle.rtl_ir.specs.Outputs.{output_pin, drives_pin}
use Rattle.rtl_ir.specs.Parameters.{signal_at}
use Rattle.rtl_ir.specs.Signals.{wire_bits}
use Rattle.net_model.specs.Lists.{In}
use Rattle.net_model.specs.Relate.{PortOf}
use Rattle.net_model.proofs.Members.{In-cases, In-left, In-right}
use Rattle.net_model.proofs.Own.{port_own}
use Rattle.std.proofs.lemmas.Slice.Eq.{bytes_eq-Decides}
use Rattle.rtl_ir.specs.Types.{CellType, Library}
use Rattle.pass_laws.specs.Bits.{pin_bits}

-- the bits of the pins of a cell
abbrev pub cell_bits : Cell → List WireBit
cell_bits c = flat_map (λ (pin : Pin). wire_bits pin.sig) c.pins

-- something is so of each of these places
abbrev pub AllAt : (Place → Type 0) → List Point → Type 0
AllAt P ps = (q : Place) → In (At q) ps → P q

module _ (P : Place → Type 0) where
  pub all_append : (ps qs : List Point) → AllAt P ps → AllAt P qs → AllAt P (ps ++ qs)
  all_append ps qs h k q i = ⊎_elim (λ l. h q l) (λ r. k q r) (In-cases (At q) ps qs i)

  -- the point at a place of a list is a constant, or one of the list
  pub at_point : (ps : List Point) (at : ℕ) → AllAt P ps → AllAt P (point_at ps at ∷ [])
  at_point [] at h q (inl e) = absurd (cc)
  at_point [] at h q (inr i) = absurd i
  at_point (s ∷ ps) zero h q (inl e) = h q (inl e)
  at_point (s ∷ ps) zero h q (inr i) = absurd i
  at_point (s ∷ ps) (suc at) h q i = at_point ps at (λ r j. h r (inr j)) q i

  pub all_first : (s : Point) (ps : List Point) → AllAt P (s ∷ []) → AllAt P ps → AllAt P (s ∷ ps)
  all_first s ps h k q (inl e) = h q (inl e)
  all_first s ps h k q (inr i) = k q i

  pub all_none : AllAt P []
  all_none q i = absurd i

  module _ (p : Path) (wires : List Wire) (pins : List Pin) (each : (name : PinName) → AllAt P (pin_points p wires pins name)) where
    at_pin : (name : PinName) (at : ℕ) → AllAt P (point_at (pin_points p wires pins name) at ∷ [])
    at_pin name at = at_point (pin_points p wires pins name) at (each name)

    word_reads : (at : ℕ) → AllAt P (store_list (word_store p wires pins at))
    word_reads at =
        let one = λ (name : PinName) (k : ℕ). point_at (pin_points p wires pins name) k in
        all_first (one Clk 0) (one En 0 ∷ one Arst 0 ∷ one Srst 0 ∷ one Aload 0 ∷ one Ad at ∷ one Set at ∷ one Clr at ∷ one D at ∷ []) (at_pin Clk 0) (all_first (one En 0) (one Arst 0 ∷ one Srst 0 ∷ one Aload 0 ∷ one Ad at ∷ one Set at ∷ one Clr at ∷ one D at ∷ []) (at_pin En 0) (all_first (one Arst 0) (one Srst 0 ∷ one Aload 0 ∷ one Ad at ∷ one Set at ∷ one Clr at ∷ one D at ∷ []) (at_pin Arst 0) (all_first (one Srst 0) (one Aload 0 ∷ one Ad at ∷ one Set at ∷ one Clr at ∷ one D at ∷ []) (at_pin Srst 0) (all_first (one Aload 0) (one Ad at ∷ one Set at ∷ one Clr at ∷ one D at ∷ []) (at_pin Aload 0) (all_first (one Ad at) (one Set at ∷ one Clr at ∷ one D at ∷ []) (at_pin Ad at) (all_first (one Set at) (one Clr at ∷ one D at ∷ []) (at_pin Set at) (all_first (one Clr at) (one D at ∷ []) (at_pin Clr at) (at_pin D at))))))))

    gate_reads : (at : ℕ) → AllAt P (store_list (gate_store p wires pins at))
    gate_reads at =
        let one = λ (name : PinName). point_at (pin_points p wires pins name) 0 in
        all_first (one C) (one E ∷ one R ∷ one R ∷ one L ∷ one Ad ∷ one S ∷ one R ∷ one D ∷ []) (at_pin C 0) (all_first (one E) (one R ∷ one R ∷ one L ∷ one Ad ∷ one S ∷ one R ∷ one D ∷ []) (at_pin E 0) (all_first (one R) (one R ∷ one L ∷ one Ad ∷ one S ∷ one R ∷ one D ∷ []) (at_pin R 0) (all_first (one R) (one L ∷ one Ad ∷ one S ∷ one R ∷ one D ∷ []) (at_pin R 0) (all_first (one L) (one Ad ∷ one S ∷ one R ∷ one D ∷ []) (at_pin L 0) (all_first (one Ad) (one S ∷ one R ∷ one D ∷ []) (at_pin Ad 0) (all_first (one S) (one R ∷ one D ∷ []) (at_pin S 0) (all_first (one R) (one D ∷ []) (at_pin R 0) (at_pin D 0))))))))

    outputs_read : (shape : Shape) (inputs : List (List Point)) → AllAt P (flat_map (λ word. word) inputs) → (ys : List Point) (at : ℕ) (x : Driven) → In x (outputs shape inputs ys at) → In (At x.place) ys × AllAt P (read_points x.driver)
    outputs_read shape inputs h [] at x i = absurd i
    outputs_read shape inputs h (At q ∷ ys) at x (inl e) =
        (inl (ap (λ (z : Driven). At z.place) e), subst (λ (z : Driven). AllAt P (read_points z.driver)) (sym e) h)
    outputs_read shape inputs h (At q ∷ ys) at x (inr i) = let k = outputs_read shape inputs h ys (suc at) x i in (inr k.0, k.1)
    outputs_read shape inputs h (Constant b ∷ ys) at x i = let k = outputs_read shape inputs h ys (suc at) x i in (inr k.0, k.1)

    stores_read : (start : SigBit → Bit) (shape : Shape) (from : ℕ → StorePoints) → ((at : ℕ) → AllAt P (store_list (from at))) → (signal : List SigBit) (qs : List Point) → AllAt P qs → (at : ℕ) (x : Driven) → In x (stores start shape from signal qs at) → In (At x.place) qs × AllAt P (read_points x.driver)
    stores_read start shape from h [] qs g at x i = absurd i
    stores_read start shape from h (s ∷ signal) [] g at x i = absurd i
    stores_read start shape from h (s ∷ signal) (At q ∷ qs) g at x (inl e) =
        (inl (ap (λ (z : Driven). At z.place) e), subst (λ (z : Driven). AllAt P (read_points z.driver)) (sym e) (all_first (At q) (store_list (from at)) (λ r i. g r (⊎_elim (λ f. inl f) (λ j. absurd j) i)) (h at)))
    stores_read start shape from h (s ∷ signal) (At q ∷ qs) g at x (inr i) =
        let k = stores_read start shape from h signal qs (λ r j. g r (inr j)) (suc at) x i in (inr k.0, k.1)
    stores_read start shape from h (s ∷ signal) (Constant b ∷ qs) g at x i =
        let k = stores_read start shape from h signal qs (λ r j. g r (inr j)) (suc at) x i in (inr k.0, k.1)

    worked_inputs : AllAt P (flat_map (λ word. word) (pin_points p wires pins A ∷ pin_points p wires pins B ∷ pin_points p wires pins S ∷ []))
    worked_inputs =
        all_append (pin_points p wires pins A) _ (each A) (all_append (pin_points p wires pins B) _ (each B) (all_append (pin_points p wires pins S) [] (each S) all_none))

-- a row of a cell of the library drives a point of the pin that its kind drives, and reads its pins
pub record IsKindRow (P : Place → Type 0) (p : Path) (wires : List Wire) (pins : List Pin) (kind : CellKind) (x : Driven) : Type 0 where
  pub pin : PinName
  pub drives : output_pin kind ≡ Some pin
  pub place : In (At x.place) (pin_points p wires pins pin)
  pub read : AllAt P (read_points x.driver)

pub kind_row : (P : Place → Type 0) (start : SigBit → Bit) (p : Path) (wires : List Wire) (c : Cell) → ((name : PinName) → AllAt P (pin_points p wires c.pins name)) → (kind : CellKind) (x : Driven) → In x (kind_rows start p wires c kind) → IsKindRow P p wires c.pins kind x
kind_row P start p wires c each (Word kind) x i =
    let k = outputs_read P p wires c.pins each (cell_shape (Word kind) c.params) (pin_points p wires c.pins A ∷ pin_points p wires c.pins B ∷ pin_points p wires c.pins S ∷ []) (worked_inputs P p wires c.pins each) (pin_points p wires c.pins Y) 0 x i in
    record { pin = Y; drives = refl; place = k.0; read = k.1 }
kind_row P start p wires c each (Gate gate) x i =
    let k = outputs_read P p wires c.pins each (cell_shape (Gate gate) c.params) (pin_points p wires c.pins A ∷ pin_points p wires c.pins B ∷ pin_points p wires c.pins S ∷ []) (worked_inputs P p wires c.pins each) (pin_points p wires c.pins Y) 0 x i in
    record { pin = Y; drives = refl; place = k.0; read = k.1 }
kind_row P start p wires c each (Storage kind) x i =
    let k = stores_read P p wires c.pins each start (cell_shape (Storage kind) c.params) (word_store p wires c.pins) (word_reads P p wires c.pins each) (signal_at c.pins (pin_text Q)) (pin_points p wires c.pins Q) (each Q) 0 x i in
    record { pin = Q; drives = refl; place = k.0; read = k.1 }
kind_row P start p wires c each (StorageGate gate) x i =
    let k = stores_read P p wires c.pins each start (cell_shape (StorageGate gate) c.params) (gate_store p wires c.pins) (gate_reads P p wires c.pins each) (signal_at c.pins (pin_text Q)) (pin_points p wires c.pins Q) (each Q) 0 x i in
    record { pin = Q; drives = refl; place = k.0; read = k.1 }
kind_row P start p wires c each (Memory kind) x i = absurd i

-- a place among the points of a signal is that of one of its bits
pub point_bit : (p : Path) (wires : List Wire) (signal : List SigBit) (q : Place) → In (At q) (points p wires signal) → (b : WireBit) × In b (wire_bits signal) × (q ≡ bit_place p wires b)
point_bit p wires [] q i = absurd i
point_bit p wires (Fixed c ∷ signal) q (inl e) = absurd (cc)
point_bit p wires (Fixed c ∷ signal) q (inr i) = point_bit p wires signal q i
point_bit p wires (OnWire b ∷ signal) q (inl e) = let same : q ≡ bit_place p wires b = cc in (b, inl refl, same)
point_bit p wires (OnWire b ∷ signal) q (inr i) = let k = point_bit p wires signal q i in (k.0, inr k.1, k.2)

-- the bits at a pin are among those of the pins
pub signal_bits : (pins : List Pin) (name : List ℕ) (b : WireBit) → In b (wire_bits (signal_at pins name)) → In b (flat_map (λ (p : Pin). wire_bits p.sig) pins)
signal_bits [] name b i = absurd i
signal_bits (p ∷ pins) name b i = by (bytes_eq p.name name) (signal_bits pins name b) i
  where
    by : (t : Bool) → (In b (wire_bits (signal_at pins name)) → In b (flat_map (λ (q : Pin). wire_bits q.sig) pins)) → In b (wire_bits (option_map_or (λ (q : Pin). q.sig) (cond t (Some p) (find (λ (q : Pin). bytes_eq q.name name) pins)) [])) → In b (flat_map (λ (q : Pin). wire_bits q.sig) (p ∷ pins))
    by true later j = In-left b (wire_bits p.sig) (flat_map (λ (q : Pin). wire_bits q.sig) pins) j
    by false later j = In-right b (wire_bits p.sig) (flat_map (λ (q : Pin). wire_bits q.sig) pins) (later j)

-- at a pin that the cell drives they are among those that it drives
pub driven_bits : (type : CellType) (pins : List Pin) (name : List ℕ) → drives_pin type name ≡ true → (b : WireBit) → In b (wire_bits (signal_at pins name)) → In b (pin_bits type pins)
driven_bits type [] name e b i = absurd i
driven_bits type (p ∷ pins) name e b i = by (bytes_eq p.name name) refl (driven_bits type pins name e b) i
  where
    by : (t : Bool) → bytes_eq p.name name ≡ t → (In b (wire_bits (signal_at pins name)) → In b (pin_bits type pins)) → In b (wire_bits (option_map_or (λ (q : Pin). q.sig) (cond t (Some p) (find (λ (q : Pin). bytes_eq q.name name) pins)) [])) → In b ((if drives_pin type p.name then wire_bits p.sig else []) ++ pin_bits type pins)
    by true f later j =
        let drives : drives_pin type p.name ≡ true = ap (drives_pin type) ((bytes_eq-Decides p.name name).0 f) ∙ e in
        In-left b (if drives_pin type p.name then wire_bits p.sig else []) (pin_bits type pins) (subst (λ z. In b (if z then wire_bits p.sig else [])) (sym drives) j)
    by false f later j = In-right b (if drives_pin type p.name then wire_bits p.sig else []) (pin_bits type pins) (later j)

pub drives_output : (kind : CellKind) (pin : PinName) → output_pin kind ≡ Some pin → drives_pin (Library kind) (pin_text pin) ≡ true
drives_output kind pin e =
    ap (λ o. option_map_or (λ z. bytes_eq (pin_text pin) (pin_text z)) o false) e ∙ (bytes_eq-Decides (pin_text pin) (pin_text pin)).1 refl

-- the row of a connection drives a point of the left, and passes one of the right on
pub joins_are : (ls rs : List Point) (x : Driven) → In x (joins ls rs) → (from : Point) × In (At x.place) ls × (x.driver ≡ Joined from) × In from rs
joins_are [] rs x i = absurd i
joins_are (l ∷ ls) [] x i = absurd i
joins_are (At q ∷ ls) (r ∷ rs) x (inl e) = (r, inl (ap (λ (z : Driven). At z.place) e), ap (λ (z : Driven). z.driver) e, inl refl)
joins_are (At q ∷ ls) (r ∷ rs) x (inr i) = let k = joins_are ls rs x i in (k.0, inr k.1, k.2, inr k.3)
joins_are (Constant b ∷ ls) (r ∷ rs) x i = let k = joins_are ls rs x i in (k.0, inr k.1, k.2, inr k.3)

pub in_places : (ps : List Point) (q : Place) → In q (places ps) → In (At q) ps
in_places [] q i = absurd i
in_places (At r ∷ ps) q (inl e) = inl (ap At e)
in_places (At r ∷ ps) q (inr i) = inr (in_places ps q i)
in_places (Constant b ∷ ps) q i = inr (in_places ps q i)

places_in : (ps : List Point) (q : Place) → In (At q) ps → In q (places ps)
places_in [] q i = absurd i
places_in (At r ∷ ps) q (inl e) = let same : q ≡ r = cc in inl same
places_in (At r ∷ ps) q (inr i) = inr (places_in ps q i)
places_in (Constant b ∷ ps) q (inl e) = absurd (cc)
places_in (Constant b ∷ ps) q (inr i) = places_in ps q i

-- the place is that of a bit of a pin of the cell
abbrev pub IsPinOf : Path → List Wire → Cell → Place → Type 0
IsPinOf p wires c q = (b : WireBit) × In b (cell_bits c) × (q ≡ bit_place p wires b)

module _ (ports : Ports) (p : Path) (wires : List Wire) (c : Cell) where
  pub pins_of : (name : List ℕ) → AllAt (IsPinOf p wires c) (points p wires (signal_at c.pins name))
  pins_of name q i =
      let k = point_bit p wires (signal_at c.pins name) q i in
      (k.0, signal_bits c.pins name k.0 k.1, k.2)

  -- a row of a cell reads bits of its pins, and output ports of the instance that it is
  abbrev pub ReadsPins : List Frame → Driven → Type 0
  ReadsPins frames x = (q : Place) → In q (reads x.driver) → IsPinOf p wires c q ⊎ PortOf Output ports frames p q

  instance_reads : (frames : List Frame) (f : Frame) → In f frames → (ns : List PortLine) → ((n : PortLine) → In n ns → In n (ports f.module_name)) → (x : Driven) → In x (instance_rows p wires c.pins f ns) → ReadsPins frames x
  instance_reads frames f g [] h x i q j = absurd i
  instance_reads frames f g (n ∷ ns) h x i q j =
      ⊎_elim
      (λ l. by n.role refl l)
      (λ r. instance_reads frames f g ns (λ z k. h z (inr k)) x r q j)
      (In-cases x (port_joins n.role (points p wires (signal_at c.pins n.name)) (wire_points (f ∷ p) n.name 0 n.width)) (instance_rows p wires c.pins f ns) i)
    where
      from : (s : Point) → x.driver ≡ Joined s → At q ≡ s
      from s e = one (in_places (s ∷ []) q (subst (λ d. In q (reads d)) e j))
        where
          one : In (At q) (s ∷ []) → At q ≡ s
          one (inl k) = k
          one (inr k) = absurd k

      by : (role : Role) → n.role ≡ role → In x (port_joins role (points p wires (signal_at c.pins n.name)) (wire_points (f ∷ p) n.name 0 n.width)) → IsPinOf p wires c q ⊎ PortOf Output ports frames p q
      by Inner e l = absurd l
      by Inout e l = absurd l
      by Input e l =
          let k = joins_are (wire_points (f ∷ p) n.name 0 n.width) (points p wires (signal_at c.pins n.name)) x l in
          inl (pins_of n.name q (subst (λ s. In s (points p wires (signal_at c.pins n.name))) (sym (from k.0 k.2)) k.3))
      by Output e l =
          let k = joins_are (points p wires (signal_at c.pins n.name)) (wire_points (f ∷ p) n.name 0 n.width) x l in
          let o = port_own (f ∷ p) n q (places_in (wire_points (f ∷ p) n.name 0 n.width) q (subst (λ s. In s (wire_points (f ∷ p) n.name 0 n.width)) (sym (from k.0 k.2)) k.3)) in
          inr (f, n, g, h n (inl refl), o.0, o.1, e)

  pub cell_reads : (start : SigBit → Bit) (frames : List Frame) (kind : Option CellKind) → ((f : Frame) → In f (listed (instance_of c kind)) → In f frames) → (x : Driven) → In x (cell_rows start ports p wires c kind) → ReadsPins frames x
  cell_reads start frames (Some kind) g x i q j =
      inl ((kind_row (IsPinOf p wires c) start p wires c (λ name. pins_of (pin_text name)) kind x i).read q (in_places (read_points x.driver) q j))
  cell_reads start frames None g x i q j =
      instance_reads frames (frame c.name c.kind_name) (g (frame c.name c.kind_name) (inl refl)) (ports c.kind_name) (λ n k. k) x i q j
