-- Cells and connections by the new places of their wires: no faults where there were none, and the same rows.
use Rattle.std.proofs.Common.{◌≡◌, ℕ, suc, Bool, true, false, cond, if◌then◌else◌, List, [], ◌∷◌, ◌++◌, Option, Some, None, inl, inr, refl, sym, ◌∙◌, ap, subst}
use Rattle.std.specs.Prelude.{◌&&◌, ◌||◌, ◌==◌, find, map, not}
use Rattle.std.specs.List.{list_any}
use Rattle.std.specs.Option.{option_map_or}
use Rattle.std.specs.Str.{bytes_eq}
use Rattle.std.proofs.lemmas.List.{length-map}
use Rattle.cell_types.specs.Fault.{fault_of}
use Rattle.cell_types.specs.declared.kind.CellKind.{CellKind}
use Rattle.cell_types.specs.declared.kind.CellKind.TheVariants.{Word, Gate, Storage, StorageGate, Memory}
use Rattle.cell_types.specs.declared.pin_name.PinName.{PinName}
use Rattle.cell_types.specs.declared.pin_name.PinName.TheVariants.{A, B, S, Y, Clk, En, Arst, Srst, Aload, Set, Clr, Ad, D, Q, C, E, R, L}
use Rattle.cell_types.specs.declared.shape.Shape.{Shape}
use Rattle.cell_types.specs.PinName.{pin_text}
use Rattle.rtl_bits.specs.declared.bit.Bit.{Bit}
use Rattle.rtl_sig.specs.declared.sig.SigBit.{SigBit}
use Rattle.rtl_sig.specs.declared.sig.SigBit.TheVariants.{Fixed, Wire as OnWire}
use Rattle.rtl_sig.specs.declared.sig.WireBit.{WireBit}
use Rattle.rtl_ir.specs.declared.cell.Cell.{Cell}
use Rattle.rtl_ir.specs.declared.cell.Pin.{Pin}
use Rattle.rtl_ir.specs.declared.module.Link.{Link}
use Rattle.rtl_ir.specs.declared.ports.PortLine.{PortLine}
use Rattle.rtl_ir.specs.declared.wire.Wire.{Wire}
use Rattle.rtl_ir.specs.Faults.Cells.{has_constant_output, has_other_width, lacks_port, misfit, pin_widths}
use Rattle.rtl_ir.specs.Flat.Cell.{Ports, cell_kind, cell_rows, cell_shape, cells_rows, gate_store, instance_of, instance_rows, instances, kind_rows, listed, outputs, port_joins, stored_rows, stores, word_store, worked_rows}
use Rattle.rtl_ir.specs.Flat.Driver.{StorePoints, Stored}
use Rattle.rtl_ir.specs.Flat.Link.{joins, link_rows}
use Rattle.rtl_ir.specs.Flat.Place.{Frame, Path, frame}
use Rattle.rtl_ir.specs.Flat.Point.{At, Constant, Point, pin_points, point, point_at, points, wire_points}
use Rattle.rtl_ir.specs.Outputs.{drives_pin}
use Rattle.rtl_ir.specs.Parameters.{given_params, signal_at}
use Rattle.rtl_ir.specs.Rules.{has_item}
use Rattle.rtl_ir.specs.Signals.{has_constant, wire_bits}
use Rattle.rtl_ir.specs.Types as types
use Rattle.rtl_ir.specs.Types.{CellType, Instance, Library, Unknown, Unsupported, cell_type, port_named}
use Rattle.net_model.specs.Lists.{In}
use Rattle.net_model.proofs.Members.{map-append}
use Rattle.pass_laws.specs.Bits.{cells_bits, links_bits, pin_bits}
use Rattle.pass_laws.specs.Replaces.{IsEven}
use Rattle.pass_laws.proofs.Alone.{IsSound, IsSoundBy}
use Rattle.opt_clean.specs.Wires.{cell_bits, moved_bit, moved_cell, moved_link, moved_pin, new_place}
use Rattle.pass_laws.proofs.CellReads.{signal_bits}
use Rattle.opt_clean.proofs.Ends.{has_signal}

module _ (marks : List Bool) where
  abbrev pub move : SigBit → SigBit
  move = moved_bit marks

  -- a bit of a wire by the new place
  abbrev pub move_wire : WireBit → WireBit
  move_wire b = record { wire = new_place marks b.wire; at = b.at }

  abbrev pub pins_of : List Pin → List Pin
  pins_of pins = map (moved_pin marks) pins

  constant_stays : (signal : List SigBit) → has_constant (map move signal) ≡ has_constant signal
  constant_stays [] = refl
  constant_stays (Fixed c ∷ signal) = refl
  constant_stays (OnWire b ∷ signal) = constant_stays signal

  pub bits_move : (signal : List SigBit) → wire_bits (map move signal) ≡ map move_wire (wire_bits signal)
  bits_move [] = refl
  bits_move (Fixed c ∷ signal) = bits_move signal
  bits_move (OnWire b ∷ signal) = ap (λ z. move_wire b ∷ z) (bits_move signal)

  widths_stay : (pins : List Pin) → pin_widths (pins_of pins) ≡ pin_widths pins
  widths_stay [] = refl
  widths_stay (q ∷ qs) =
      let wide = length-map q.sig move in
      let later = widths_stay qs in
      λ i. record { name = q.name; width = wide i } ∷ later i

  constants_stay : (type : CellType) (pins : List Pin) → has_constant_output type (pins_of pins) ≡ has_constant_output type pins
  constants_stay type [] = refl
  constants_stay type (q ∷ qs) =
      let here = constant_stays q.sig in
      let later = constants_stay type qs in
      λ i. (drives_pin type q.name && here i) || later i

  lacks_stay : (lines : List PortLine) (pins : List Pin) → list_any (lacks_port lines) (pins_of pins) ≡ list_any (lacks_port lines) pins
  lacks_stay lines [] = refl
  lacks_stay lines (q ∷ qs) = ap (λ z. lacks_port lines q || z) (lacks_stay lines qs)

  item_stays : (signal : List SigBit) → has_item (map move signal) ≡ has_item signal
  item_stays [] = refl
  item_stays (s ∷ signal) = refl

  other_stays : (lines : List PortLine) (pins : List Pin) → list_any (has_other_width lines) (pins_of pins) ≡ list_any (has_other_width lines) pins
  other_stays lines [] = refl
  other_stays lines (q ∷ qs) =
      let item = item_stays q.sig in
      let wide = length-map q.sig move in
      let later = other_stays lines qs in
      λ i. (item i && option_map_or (λ (port : PortLine). not (wide i == port.width)) (port_named lines q.name) false) || later i

  misfit_stays : (kind : CellKind) (c : Cell) → misfit kind (moved_cell marks c) ≡ misfit kind c
  unfolding misfit
  misfit_stays kind c = ap (fault_of kind (given_params c.params)) (widths_stay c.pins)

  -- a cell without faults but those of memories is so with its bits moved
  sound_by : (c : Cell) (type : CellType) → IsSoundBy c type → IsSoundBy (moved_cell marks c) type
  sound_by c (Library kind) s = record { fit = misfit_stays kind c ∙ s.fit; output = constants_stay (Library kind) c.pins ∙ s.output }
  sound_by c (Instance lines) s = record {
    known = ap (λ t. has_item c.params || t) (lacks_stay lines c.pins) ∙ s.known;
    widths = other_stays lines c.pins ∙ s.widths;
    output = constants_stay (Instance lines) c.pins ∙ s.output;
  }
  sound_by c Unsupported s = absurd s
  sound_by c Unknown s = absurd s

  pub moved_sound : (ports : types.Ports) (c : Cell) → IsSound ports c → IsSound ports (moved_cell marks c)
  moved_sound ports c sound = sound_by c (cell_type ports c.kind_name) sound

  pub moved_even : (l : Link) → IsEven l → IsEven (moved_link marks l)
  moved_even l even = record {
    width = ap not (λ i. length-map l.left move i == length-map l.right move i) ∙ even.width;
    wires = constant_stays l.left ∙ even.wires;
  }

  -- what cells and connections drive
  driven_move : (type : CellType) (pins : List Pin) → pin_bits type (pins_of pins) ≡ map move_wire (pin_bits type pins)
  driven_move type [] = refl
  driven_move type (q ∷ qs) =
      ap (λ z. z ++ pin_bits type (pins_of qs)) (by (drives_pin type q.name))
      ∙ ap (λ z. map move_wire (if drives_pin type q.name then wire_bits q.sig else []) ++ z) (driven_move type qs)
      ∙ sym (map-append move_wire (if drives_pin type q.name then wire_bits q.sig else []) (pin_bits type qs))
    where
      by : (t : Bool) → (if t then wire_bits (map move q.sig) else []) ≡ map move_wire (if t then wire_bits q.sig else [])
      by true = bits_move q.sig
      by false = refl

  pub cells_move : (ports : types.Ports) (cs : List Cell) → cells_bits ports (map (moved_cell marks) cs) ≡ map move_wire (cells_bits ports cs)
  cells_move ports [] = refl
  cells_move ports (c ∷ cs) =
      ap (λ z. z ++ cells_bits ports (map (moved_cell marks) cs)) (driven_move (cell_type ports c.kind_name) c.pins)
      ∙ ap (λ z. map move_wire (pin_bits (cell_type ports c.kind_name) c.pins) ++ z) (cells_move ports cs)
      ∙ sym (map-append move_wire (pin_bits (cell_type ports c.kind_name) c.pins) (cells_bits ports cs))

  pub links_move : (ls : List Link) → links_bits (map (moved_link marks) ls) ≡ map move_wire (links_bits ls)
  links_move [] = refl
  links_move (l ∷ ls) =
      ap (λ z. z ++ links_bits (map (moved_link marks) ls)) (bits_move l.left)
      ∙ ap (λ z. map move_wire (wire_bits l.left) ++ z) (links_move ls)
      ∙ sym (map-append move_wire (wire_bits l.left) (links_bits ls))

  pub kinds_stay : (cs : List Cell) → instances (map (moved_cell marks) cs) ≡ instances cs
  unfolding cell_kind
  kinds_stay [] = refl
  kinds_stay (c ∷ cs) = ap (λ z. listed (instance_of c (cell_kind c)) ++ z) (kinds_stay cs)

  pub signal_moves : (pins : List Pin) (name : List ℕ) → signal_at (pins_of pins) name ≡ map move (signal_at pins name)
  signal_moves [] name = refl
  signal_moves (q ∷ qs) name = by (signal_moves qs name) (bytes_eq q.name name)
    where
      by : signal_at (pins_of qs) name ≡ map move (signal_at qs name) → (t : Bool) → option_map_or (λ (z : Pin). z.sig) (cond t (Some (moved_pin marks q)) (find (λ (z : Pin). bytes_eq z.name name) (pins_of qs))) [] ≡ map move (option_map_or (λ (z : Pin). z.sig) (cond t (Some q) (find (λ (z : Pin). bytes_eq z.name name) qs)) [])
      by later true = refl
      by later false = later

  -- the rows, where each bit that is named has the same place and start value
  module _ (p : Path) (old new : List Wire) (start begin : SigBit → Bit) where
    -- the bits of a signal keep their places and start values
    abbrev pub Keeps : List SigBit → Type 0
    Keeps signal = (s : SigBit) → In s signal → (point p new (move s) ≡ point p old s) × (begin (move s) ≡ start s)

    pub points_stay : (signal : List SigBit) → Keeps signal → points p new (map move signal) ≡ points p old signal
    points_stay [] h = refl
    points_stay (s ∷ signal) h = λ i. (h s (inl refl)).0 i ∷ points_stay signal (λ x j. h x (inr j)) i

    starts_stay : (shape : Shape) (reads : ℕ → StorePoints) (signal : List SigBit) (qs : List Point) (at : ℕ) → Keeps signal → stores begin shape reads (map move signal) qs at ≡ stores start shape reads signal qs at
    starts_stay shape reads [] qs at h = refl
    starts_stay shape reads (s ∷ signal) [] at h = refl
    starts_stay shape reads (s ∷ signal) (At q ∷ qs) at h =
        let here = (h s (inl refl)).1 in
        let later = starts_stay shape reads signal qs (suc at) (λ x j. h x (inr j)) in
        λ i. record { place = q; driver = Stored (here i) shape at (reads at) q } ∷ later i
    starts_stay shape reads (s ∷ signal) (Constant b ∷ qs) at h = starts_stay shape reads signal qs (suc at) (λ x j. h x (inr j))

    module _ (c : Cell) (keeps : (s : SigBit) → ((b : WireBit) → s ≡ OnWire b → In b (cell_bits c)) → (point p new (move s) ≡ point p old s) × (begin (move s) ≡ start s)) where
      abbrev moved : Cell
      moved = moved_cell marks c

      pub signal_keeps : (name : List ℕ) → Keeps (signal_at c.pins name)
      signal_keeps name s i =
          keeps s (λ b e. signal_bits c.pins name b (has_signal (signal_at c.pins name) b (subst (λ z. In z (signal_at c.pins name)) e i)))

      at_stay : (name : List ℕ) → points p new (signal_at moved.pins name) ≡ points p old (signal_at c.pins name)
      at_stay name = ap (points p new) (signal_moves c.pins name) ∙ points_stay (signal_at c.pins name) (signal_keeps name)

      pin : (name : PinName) → pin_points p new moved.pins name ≡ pin_points p old c.pins name
      pin name = at_stay (pin_text name)

      worked_stay : (shape : Shape) → worked_rows p new moved.pins shape ≡ worked_rows p old c.pins shape
      worked_stay shape = λ i. outputs shape (pin A i ∷ pin B i ∷ pin S i ∷ []) (pin Y i) 0

      word_stay : word_store p new moved.pins ≡ word_store p old c.pins
      word_stay = λ i at. record {
        clk = point_at (pin Clk i) 0;
        en = point_at (pin En i) 0;
        arst = point_at (pin Arst i) 0;
        srst = point_at (pin Srst i) 0;
        aload = point_at (pin Aload i) 0;
        ad = point_at (pin Ad i) at;
        set = point_at (pin Set i) at;
        clr = point_at (pin Clr i) at;
        d = point_at (pin D i) at;
      }

      gate_stay : gate_store p new moved.pins ≡ gate_store p old c.pins
      gate_stay = λ i at. record {
        clk = point_at (pin C i) 0;
        en = point_at (pin E i) 0;
        arst = point_at (pin R i) 0;
        srst = point_at (pin R i) 0;
        aload = point_at (pin L i) 0;
        ad = point_at (pin Ad i) 0;
        set = point_at (pin S i) 0;
        clr = point_at (pin R i) 0;
        d = point_at (pin D i) 0;
      }

      stored_stay : (shape : Shape) (from into : ℕ → StorePoints) → into ≡ from → stored_rows begin p new moved.pins shape into ≡ stored_rows start p old c.pins shape from
      stored_stay shape from into e =
          (λ i. stores begin shape (e i) (signal_moves c.pins (pin_text Q) i) (pin Q i) 0)
          ∙ starts_stay shape from (signal_at c.pins (pin_text Q)) (pin_points p old c.pins Q) 0 (signal_keeps (pin_text Q))

      kind_stay : (kind : CellKind) → kind_rows begin p new moved kind ≡ kind_rows start p old c kind
      kind_stay (Word kind) = worked_stay (cell_shape (Word kind) c.params)
      kind_stay (Gate kind) = worked_stay (cell_shape (Gate kind) c.params)
      kind_stay (Storage kind) = stored_stay (cell_shape (Storage kind) c.params) (word_store p old c.pins) (word_store p new moved.pins) word_stay
      kind_stay (StorageGate gate) = stored_stay (cell_shape (StorageGate gate) c.params) (gate_store p old c.pins) (gate_store p new moved.pins) gate_stay
      kind_stay (Memory kind) = refl

      instance_stay : (f : Frame) (ns : List PortLine) → instance_rows p new moved.pins f ns ≡ instance_rows p old c.pins f ns
      instance_stay f [] = refl
      instance_stay f (n ∷ ns) =
          let here = at_stay n.name in
          let later = instance_stay f ns in
          λ i. port_joins n.role (here i) (wire_points (f ∷ p) n.name 0 n.width) ++ later i

      pub cell_stay : (ports : Ports) (kind : Option CellKind) → cell_rows begin ports p new moved kind ≡ cell_rows start ports p old c kind
      cell_stay ports (Some kind) = kind_stay kind
      cell_stay ports None = instance_stay (frame c.name c.kind_name) (ports c.kind_name)

    -- the rows of cells of which each bit keeps its place
    pub cells_stay : (ports : Ports) (cs : List Cell) → ((c : Cell) → In c cs → (s : SigBit) → ((b : WireBit) → s ≡ OnWire b → In b (cell_bits c)) → (point p new (move s) ≡ point p old s) × (begin (move s) ≡ start s)) → cells_rows begin ports p new (map (moved_cell marks) cs) ≡ cells_rows start ports p old cs
    unfolding cell_kind
    cells_stay ports [] h = refl
    cells_stay ports (c ∷ cs) h =
        let here = cell_stay c (h c (inl refl)) ports (cell_kind c) in
        let later = cells_stay ports cs (λ d j. h d (inr j)) in
        λ i. here i ++ later i

    -- and of connections
    pub links_stay : (ls : List Link) → ((l : Link) → In l ls → Keeps l.left × Keeps l.right) → link_rows p new (map (moved_link marks) ls) ≡ link_rows p old ls
    links_stay [] h = refl
    links_stay (l ∷ ls) h =
        let k = h l (inl refl) in
        let left = points_stay l.left k.0 in
        let right = points_stay l.right k.1 in
        let later = links_stay ls (λ d j. h d (inr j)) in
        λ i. joins (left i) (right i) ++ later i
