-- The rows of what a module has, where its wires are copied into another module: they are those of the copies, once their bits move.
use Rattle.std.proofs.Common.{◌≡◌, ℕ, zero, suc, Bool, true, false, cond, List, [], ◌∷◌, ◌++◌, map, Some, inl, inr, refl, sym, ◌∙◌, ap}
use Rattle.std.specs.Prelude.{find}
use Rattle.std.specs.Option.{option_map_or}
use Rattle.std.specs.Str.{bytes_eq}
use Rattle.rtl_bits.specs.declared.bit.Bit.{Bit}
use Rattle.rtl_sig.specs.declared.sig.SigBit.{SigBit}
use Rattle.cell_types.specs.declared.kind.CellKind.{CellKind}
use Rattle.cell_types.specs.declared.kind.CellKind.TheVariants.{Word, Gate, Storage, StorageGate, Memory}
use Rattle.cell_types.specs.declared.pin_name.PinName.{PinName}
use Rattle.cell_types.specs.declared.pin_name.PinName.TheVariants as names
use Rattle.cell_types.specs.declared.shape.Shape.{Shape}
use Rattle.cell_types.specs.PinName.{pin_text}
use Rattle.rtl_ir.specs.declared.cell.Cell.{Cell}
use Rattle.rtl_ir.specs.declared.cell.Pin.{Pin}
use Rattle.rtl_ir.specs.declared.module.Link.{Link}
use Rattle.rtl_ir.specs.declared.ports.PortLine.{PortLine}
use Rattle.rtl_ir.specs.declared.wire.Role.{Role}
use Rattle.rtl_ir.specs.declared.wire.Role.TheVariants.{Inner, Input, Output, Inout}
use Rattle.rtl_ir.specs.declared.wire.Wire.{Wire}
use Rattle.rtl_ir.specs.Flat.Cell.{cell_shape, gate_store, instance_rows, kind_rows, outputs, port_joins, stored_rows, stores, word_store, worked_rows}
use Rattle.rtl_ir.specs.Flat.Driver.{StorePoints, Joined, Stored, Worked}
use Rattle.rtl_ir.specs.Flat.Link.{joins, link_rows}
use Rattle.rtl_ir.specs.Flat.Place.{Frame, Path, wire_place}
use Rattle.rtl_ir.specs.Flat.Point.{Point, Constant, At, pin_points, point, point_at, points, wire_points}
use Rattle.rtl_ir.specs.Parameters.{signal_at}
use Rattle.net_model.specs.Within.{BitIn, Each, LinkIn, SigIn}
use Rattle.net_model.proofs.Members.{map-append}
use Rattle.flat_pass.proofs.Moving.{Move, moved, moved_pins, moved_point, moved_word}

module _ (go : Move) where
  -- the bits of connections
  pub joins_moved : (ls rs : List Point) → map (moved go) (joins ls rs) ≡ joins (moved_word go ls) (moved_word go rs)
  joins_moved [] rs = refl
  joins_moved (Constant b ∷ ls) [] = refl
  joins_moved (At q ∷ ls) [] = refl
  joins_moved (At q ∷ ls) (r ∷ rs) = λ i. record { place = go q; driver = Joined (moved_point go r) } ∷ joins_moved ls rs i
  joins_moved (Constant b ∷ ls) (r ∷ rs) = joins_moved ls rs

  -- those of outputs
  pub outputs_moved : (shape : Shape) (inputs : List (List Point)) (ys : List Point) (at : ℕ) → map (moved go) (outputs shape inputs ys at) ≡ outputs shape (map (moved_word go) inputs) (moved_word go ys) at
  outputs_moved shape inputs [] at = refl
  outputs_moved shape inputs (At q ∷ ys) at = λ i. record { place = go q; driver = Worked shape (map (moved_word go) inputs) at } ∷ outputs_moved shape inputs ys (suc at) i
  outputs_moved shape inputs (Constant b ∷ ys) at = outputs_moved shape inputs ys (suc at)

  -- a place of a word
  pub at_moved : (word : List Point) (at : ℕ) → moved_point go (point_at word at) ≡ point_at (moved_word go word) at
  at_moved [] at = refl
  at_moved (p ∷ word) zero = refl
  at_moved (p ∷ word) (suc at) = at_moved word at

  -- the bits of a wire that goes to another one
  pub wire_moved : (p p' : Path) (name name' : List ℕ) → ((at : ℕ) → go (wire_place p name at) ≡ wire_place p' name' at) → (at width : ℕ) → moved_word go (wire_points p name at width) ≡ wire_points p' name' at width
  wire_moved p p' name name' h at zero = refl
  wire_moved p p' name name' h at (suc width) = λ i. At (h at i) ∷ wire_moved p p' name name' h (suc at) width i

module _ (go : Move) (count : ℕ) (wires wires' : List Wire) (p p' : Path) (copy : SigBit → SigBit) (point_goes : (s : SigBit) → BitIn count s → moved_point go (point p wires s) ≡ point p' wires' (copy s)) where
  abbrev pub copied : List SigBit → List SigBit
  copied signal = map copy signal

  abbrev pub pin_copied : Pin → Pin
  pin_copied pin = record pin { sig = copied pin.sig }

  abbrev pub link_copied : Link → Link
  link_copied l = record { left = copied l.left; right = copied l.right }

  pub points_moved : (ss : List SigBit) → SigIn count ss → moved_word go (points p wires ss) ≡ points p' wires' (copied ss)
  points_moved [] h = refl
  points_moved (s ∷ ss) h = λ i. point_goes s (h s (inl refl)) i ∷ points_moved ss (λ x j. h x (inr j)) i

  pub links_moved : (links : List Link) → Each (LinkIn count) links → map (moved go) (link_rows p wires links) ≡ link_rows p' wires' (map link_copied links)
  links_moved [] h = refl
  links_moved (l ∷ links) h =
      let here = h l (inl refl) in
      map-append (moved go) (joins (points p wires l.left) (points p wires l.right)) (link_rows p wires links)
      ∙ (λ i. (joins_moved go (points p wires l.left) (points p wires l.right) ∙ (λ j. joins (points_moved l.left here.0 j) (points_moved l.right here.1 j))) i ++ links_moved links (λ x j. h x (inr j)) i)

  -- the signal at a pin of a copied cell
  pub signal_copied : (pins : List Pin) (name : List ℕ) → signal_at (map pin_copied pins) name ≡ copied (signal_at pins name)
  signal_copied [] name = refl
  signal_copied (q ∷ pins) name = by (bytes_eq q.name name) (signal_copied pins name)
    where
      by : (b : Bool) → signal_at (map pin_copied pins) name ≡ copied (signal_at pins name) → option_map_or (λ (r : Pin). r.sig) (cond b (Some (pin_copied q)) (find (λ (r : Pin). bytes_eq r.name name) (map pin_copied pins))) [] ≡ copied (option_map_or (λ (r : Pin). r.sig) (cond b (Some q) (find (λ (r : Pin). bytes_eq r.name name) pins)) [])
      by true h = refl
      by false h = h

  pub signal_in : (pins : List Pin) (name : List ℕ) → Each (λ (pin : Pin). SigIn count pin.sig) pins → SigIn count (signal_at pins name)
  signal_in [] name h = λ x i. absurd i
  signal_in (q ∷ pins) name h = by (bytes_eq q.name name) (signal_in pins name (λ x j. h x (inr j)))
    where
      by : (b : Bool) → SigIn count (signal_at pins name) → SigIn count (option_map_or (λ (r : Pin). r.sig) (cond b (Some q) (find (λ (r : Pin). bytes_eq r.name name) pins)) [])
      by true k = h q (inl refl)
      by false k = k

  module _ (pins : List Pin) (within : Each (λ (pin : Pin). SigIn count pin.sig) pins) where
    pub named_moved : (name : List ℕ) → moved_word go (points p wires (signal_at pins name)) ≡ points p' wires' (signal_at (map pin_copied pins) name)
    named_moved name = points_moved (signal_at pins name) (signal_in pins name within) ∙ ap (points p' wires') (sym (signal_copied pins name))

    pub pin_moved : (name : PinName) → moved_word go (pin_points p wires pins name) ≡ pin_points p' wires' (map pin_copied pins) name
    pin_moved name = named_moved (pin_text name)

    at_pin : (name : PinName) (at : ℕ) → moved_point go (point_at (pin_points p wires pins name) at) ≡ point_at (pin_points p' wires' (map pin_copied pins) name) at
    at_pin name at = at_moved go (pin_points p wires pins name) at ∙ ap (λ w. point_at w at) (pin_moved name)

    pub worked_moved : (shape : Shape) → map (moved go) (worked_rows p wires pins shape) ≡ worked_rows p' wires' (map pin_copied pins) shape
    worked_moved shape =
        outputs_moved go shape (pin_points p wires pins names.A ∷ pin_points p wires pins names.B ∷ pin_points p wires pins names.S ∷ []) (pin_points p wires pins names.Y) 0
        ∙ (λ i. outputs shape (pin_moved names.A i ∷ pin_moved names.B i ∷ pin_moved names.S i ∷ []) (pin_moved names.Y i) 0)

    word_store_moved : (at : ℕ) → moved_pins go (word_store p wires pins at) ≡ word_store p' wires' (map pin_copied pins) at
    word_store_moved at = λ i. record {
      clk = at_pin names.Clk 0 i;
      en = at_pin names.En 0 i;
      arst = at_pin names.Arst 0 i;
      srst = at_pin names.Srst 0 i;
      aload = at_pin names.Aload 0 i;
      ad = at_pin names.Ad at i;
      set = at_pin names.Set at i;
      clr = at_pin names.Clr at i;
      d = at_pin names.D at i;
    }

    gate_store_moved : (at : ℕ) → moved_pins go (gate_store p wires pins at) ≡ gate_store p' wires' (map pin_copied pins) at
    gate_store_moved at = λ i. record {
      clk = at_pin names.C 0 i;
      en = at_pin names.E 0 i;
      arst = at_pin names.R 0 i;
      srst = at_pin names.R 0 i;
      aload = at_pin names.L 0 i;
      ad = at_pin names.Ad 0 i;
      set = at_pin names.S 0 i;
      clr = at_pin names.R 0 i;
      d = at_pin names.D 0 i;
    }

    -- an instance, over the ports of its module, that goes to another one
    pub instance_moved : (f f' : Frame) → ((name : List ℕ) (at : ℕ) → go (wire_place (f ∷ p) name at) ≡ wire_place (f' ∷ p') name at) → (ports : List PortLine) → map (moved go) (instance_rows p wires pins f ports) ≡ instance_rows p' wires' (map pin_copied pins) f' ports
    instance_moved f f' h [] = refl
    instance_moved f f' h (port ∷ ports) =
        map-append (moved go) (port_joins port.role (points p wires (signal_at pins port.name)) (wire_points (f ∷ p) port.name 0 port.width)) (instance_rows p wires pins f ports)
        ∙ (λ i. by port.role i ++ instance_moved f f' h ports i)
      where
        outer : moved_word go (points p wires (signal_at pins port.name)) ≡ points p' wires' (signal_at (map pin_copied pins) port.name)
        outer = named_moved port.name

        inner : moved_word go (wire_points (f ∷ p) port.name 0 port.width) ≡ wire_points (f' ∷ p') port.name 0 port.width
        inner = wire_moved go (f ∷ p) (f' ∷ p') port.name port.name (h port.name) 0 port.width

        by : (role : Role) → map (moved go) (port_joins role (points p wires (signal_at pins port.name)) (wire_points (f ∷ p) port.name 0 port.width)) ≡ port_joins role (points p' wires' (signal_at (map pin_copied pins) port.name)) (wire_points (f' ∷ p') port.name 0 port.width)
        by Inner = refl
        by Inout = refl
        by Input = joins_moved go (wire_points (f ∷ p) port.name 0 port.width) (points p wires (signal_at pins port.name)) ∙ (λ i. joins (inner i) (outer i))
        by Output = joins_moved go (points p wires (signal_at pins port.name)) (wire_points (f ∷ p) port.name 0 port.width) ∙ (λ i. joins (outer i) (inner i))

    module _ (start start' : SigBit → Bit) (start_goes : (s : SigBit) → BitIn count s → start s ≡ start' (copy s)) where
      stores_moved : (shape : Shape) (reads reads' : ℕ → StorePoints) → ((at : ℕ) → moved_pins go (reads at) ≡ reads' at) → (signal : List SigBit) → SigIn count signal → (qs : List Point) (at : ℕ) → map (moved go) (stores start shape reads signal qs at) ≡ stores start' shape reads' (copied signal) (moved_word go qs) at
      stores_moved shape reads reads' h [] k qs at = refl
      stores_moved shape reads reads' h (s ∷ signal) k [] at = refl
      stores_moved shape reads reads' h (s ∷ signal) k (At q ∷ qs) at =
          λ i. record { place = go q; driver = Stored (start_goes s (k s (inl refl)) i) shape at (h at i) (go q) } ∷ stores_moved shape reads reads' h signal (λ x j. k x (inr j)) qs (suc at) i
      stores_moved shape reads reads' h (s ∷ signal) k (Constant b ∷ qs) at =
          stores_moved shape reads reads' h signal (λ x j. k x (inr j)) qs (suc at)

      stored_moved : (shape : Shape) (reads reads' : ℕ → StorePoints) → ((at : ℕ) → moved_pins go (reads at) ≡ reads' at) → map (moved go) (stored_rows start p wires pins shape reads) ≡ stored_rows start' p' wires' (map pin_copied pins) shape reads'
      stored_moved shape reads reads' h =
          stores_moved shape reads reads' h (signal_at pins (pin_text names.Q)) (signal_in pins (pin_text names.Q) within) (pin_points p wires pins names.Q) 0
          ∙ (λ i. stores start' shape reads' (sym (signal_copied pins (pin_text names.Q)) i) (pin_moved names.Q i) 0)

      -- a cell of the library, whose copy has these pins and a shape that is its own
      pub kind_moved : (c k : Cell) (kind : CellKind) → c.pins ≡ pins → k.pins ≡ map pin_copied pins → cell_shape kind k.params ≡ cell_shape kind c.params → map (moved go) (kind_rows start p wires c kind) ≡ kind_rows start' p' wires' k kind
      kind_moved c k (Word kind) own its shape =
          (λ i. map (moved go) (worked_rows p wires (own i) (cell_shape (Word kind) c.params))) ∙ worked_moved (cell_shape (Word kind) c.params) ∙ (λ i. worked_rows p' wires' (sym its i) (sym shape i))
      kind_moved c k (Gate kind) own its shape =
          (λ i. map (moved go) (worked_rows p wires (own i) (cell_shape (Gate kind) c.params))) ∙ worked_moved (cell_shape (Gate kind) c.params) ∙ (λ i. worked_rows p' wires' (sym its i) (sym shape i))
      kind_moved c k (Storage kind) own its shape =
          (λ i. map (moved go) (stored_rows start p wires (own i) (cell_shape (Storage kind) c.params) (word_store p wires (own i))))
          ∙ stored_moved (cell_shape (Storage kind) c.params) (word_store p wires pins) (word_store p' wires' (map pin_copied pins)) word_store_moved
          ∙ (λ i. stored_rows start' p' wires' (sym its i) (sym shape i) (word_store p' wires' (sym its i)))
      kind_moved c k (StorageGate kind) own its shape =
          (λ i. map (moved go) (stored_rows start p wires (own i) (cell_shape (StorageGate kind) c.params) (gate_store p wires (own i))))
          ∙ stored_moved (cell_shape (StorageGate kind) c.params) (gate_store p wires pins) (gate_store p' wires' (map pin_copied pins)) gate_store_moved
          ∙ (λ i. stored_rows start' p' wires' (sym its i) (sym shape i) (gate_store p' wires' (sym its i)))
      kind_moved c k (Memory kind) own its shape = refl
