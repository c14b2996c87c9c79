-- The rows of a cell with other signals at its inputs: one by one the rows of the cell, with drivers that read other points.
use Rattle.std.proofs.Common.{◌≡◌, ℕ, zero, suc, List, [], ◌∷◌, Option, Some, None, inl, inr, refl, subst}
use Rattle.rtl_bits.specs.declared.bit.Bit.{Bit}
use Rattle.rtl_bits.specs.declared.bit.Bit.TheVariants.{X}
use Rattle.rtl_sig.specs.declared.sig.SigBit.{SigBit}
use Rattle.cell_types.specs.declared.kind.CellKind.{CellKind}
use Rattle.cell_types.specs.declared.kind.CellKind.TheVariants.{Word, Gate, Storage, StorageGate, Memory}
use Rattle.cell_types.specs.declared.level.Level.{Level}
use Rattle.cell_types.specs.declared.pin_name.PinName.{PinName}
use Rattle.cell_types.specs.declared.pin_name.PinName.TheVariants.{A, B, S, Y, Clk, En, Arst, Srst, Aload, Set, Clr, Ad, D, Q, C, E, R, L}
use Rattle.cell_types.specs.declared.shape.Shape.{Shape}
use Rattle.cell_types.specs.PinName.{pin_text}
use Rattle.rtl_ir.specs.declared.cell.Cell.{Cell}
use Rattle.rtl_ir.specs.declared.cell.Pin.{Pin}
use Rattle.rtl_ir.specs.declared.ports.PortLine.{PortLine}
use Rattle.rtl_ir.specs.declared.wire.Role.{Role}
use Rattle.rtl_ir.specs.declared.wire.Role.TheVariants.{Inner, Input, Output, Inout}
use Rattle.rtl_ir.specs.declared.wire.Wire.{Wire}
use Rattle.rtl_ir.specs.Flat.Cell.{Ports, cell_rows, cell_shape, gate_store, instance_rows, kind_rows, outputs, port_joins, stores, word_store}
use Rattle.rtl_ir.specs.Flat.Driver.{Driver, Driven, PortPoints, StorePoints, Fetched, Joined, Remembered, Stored, Worked}
use Rattle.rtl_ir.specs.Flat.Link.{joins}
use Rattle.rtl_ir.specs.Flat.Place.{Frame, frame, Path, Place}
use Rattle.rtl_ir.specs.Flat.Point.{At, Constant, Point, pin_points, point_at, points, wire_points}
use Rattle.rtl_ir.specs.Outputs.{output_pin}
use Rattle.rtl_ir.specs.Parameters.{signal_at}
use Rattle.net_model.specs.Lists.{In}
use Rattle.follow_laws.specs.Alike.{InPairs, SameBit}
use Rattle.follow_laws.proofs.Pairs.{pairs_append, pairs_self}

-- what two storage bits read stands in a relation, point by point
pub record StoresBy (P : Point → Point → Type 0) (a b : StorePoints) : Type 0 where
  pub clk : P a.clk b.clk
  pub en : P a.en b.en
  pub arst : P a.arst b.arst
  pub srst : P a.srst b.srst
  pub aload : P a.aload b.aload
  pub ad : P a.ad b.ad
  pub set : P a.set b.set
  pub clr : P a.clr b.clr
  pub d : P a.d b.d

-- what two bits of a word see of a write port stands in a relation, point by point
pub record PortBy (P : Point → Point → Type 0) (a b : PortPoints) : Type 0 where
  pub address : InPairs P a.address b.address
  pub enable : P a.enable b.enable
  pub new : P a.new b.new
  pub follows : a.follows ≡ b.follows

-- drivers that read points in one relation stand in another
pub record Carries (P : Point → Point → Type 0) (Q : Driver → Driver → Type 0) : Type 0 where
  pub same_point : (a : Point) → P a a
  pub same_driver : (d : Driver) → Q d d
  pub joined : (a b : Point) → P a b → Q (Joined a) (Joined b)
  pub worked :
      (shape : Shape) (low high : List (List Point)) (at : ℕ) → InPairs (InPairs P) low high →
      Q (Worked shape low at) (Worked shape high at)
  pub stored :
      (start : Bit) (shape : Shape) (at : ℕ) (a b : StorePoints) (own : Place) → StoresBy P a b →
      Q (Stored start shape at a own) (Stored start shape at b own)
  pub remembered :
      (start : Bit) (a b : Point) (level : Level) (address : ℕ) (low high : List PortPoints) (own : Place) → P a b →
      InPairs (PortBy P) low high →
      Q (Remembered start a level address low own) (Remembered start b level address high own)
  pub fetched :
      (low high : List Point) (first : ℕ) (words : List Point) → InPairs P low high →
      Q (Fetched low first words) (Fetched high first words)

module _ (P : Point → Point → Type 0) (related : Driver → Driver → Type 0) (k : Carries P related) where
  -- the rows stand in pairs
  abbrev pub Rows : List Driven → List Driven → Type 0
  Rows ds es = InPairs (SameBit related) ds es

  pub rows_self : (ds : List Driven) → Rows ds ds
  rows_self ds = pairs_self (SameBit related) (λ d. (refl, k.same_driver d.driver)) ds

  outputs_paired : (shape : Shape) (low high : List (List Point)) → InPairs (InPairs P) low high → (ys : List Point) (at : ℕ) → Rows (outputs shape low ys at) (outputs shape high ys at)
  outputs_paired shape low high h [] at = tt
  outputs_paired shape low high h (At q ∷ ys) at = ((refl, k.worked shape low high at h), outputs_paired shape low high h ys (suc at))
  outputs_paired shape low high h (Constant b ∷ ys) at = outputs_paired shape low high h ys (suc at)

  stores_paired : (start : SigBit → Bit) (shape : Shape) (f g : ℕ → StorePoints) → ((at : ℕ) → StoresBy P (f at) (g at)) → (signal : List SigBit) (qs : List Point) (at : ℕ) → Rows (stores start shape f signal qs at) (stores start shape g signal qs at)
  stores_paired start shape f g h [] qs at = tt
  stores_paired start shape f g h (s ∷ signal) [] at = tt
  stores_paired start shape f g h (s ∷ signal) (At q ∷ qs) at =
      ((refl, k.stored (start s) shape at (f at) (g at) q (h at)), stores_paired start shape f g h signal qs (suc at))
  stores_paired start shape f g h (s ∷ signal) (Constant b ∷ qs) at = stores_paired start shape f g h signal qs (suc at)

  joins_paired : (lefts low high : List Point) → InPairs P low high → Rows (joins lefts low) (joins lefts high)
  joins_paired [] low high h = tt
  joins_paired (l ∷ lefts) [] [] h = tt
  joins_paired (At q ∷ lefts) (a ∷ low) (b ∷ high) h = ((refl, k.joined a b h.0), joins_paired lefts low high h.1)
  joins_paired (Constant c ∷ lefts) (a ∷ low) (b ∷ high) h = joins_paired lefts low high h.1
  joins_paired (l ∷ lefts) [] (b ∷ high) h = absurd h
  joins_paired (l ∷ lefts) (a ∷ low) [] h = absurd h

  pub at_paired : (low high : List Point) → InPairs P low high → (at : ℕ) → P (point_at low at) (point_at high at)
  at_paired [] [] h at = k.same_point (Constant X)
  at_paired (a ∷ low) (b ∷ high) h zero = h.0
  at_paired (a ∷ low) (b ∷ high) h (suc at) = at_paired low high h.1 at
  at_paired [] (b ∷ high) h at = absurd h
  at_paired (a ∷ low) [] h at = absurd h

  module _ (p : Path) (wires : List Wire) (pins others : List Pin) (h : (name : List ℕ) → InPairs P (points p wires (signal_at pins name)) (points p wires (signal_at others name))) where
    pin_at : (name : PinName) (at : ℕ) → P (point_at (pin_points p wires pins name) at) (point_at (pin_points p wires others name) at)
    pin_at name at = at_paired (pin_points p wires pins name) (pin_points p wires others name) (h (pin_text name)) at

    word_stores : (at : ℕ) → StoresBy P (word_store p wires pins at) (word_store p wires others at)
    word_stores at = record {
      clk = pin_at Clk 0;
      en = pin_at En 0;
      arst = pin_at Arst 0;
      srst = pin_at Srst 0;
      aload = pin_at Aload 0;
      ad = pin_at Ad at;
      set = pin_at Set at;
      clr = pin_at Clr at;
      d = pin_at D at;
    }

    gate_stores : (at : ℕ) → StoresBy P (gate_store p wires pins at) (gate_store p wires others at)
    gate_stores at = record {
      clk = pin_at C 0;
      en = pin_at E 0;
      arst = pin_at R 0;
      srst = pin_at R 0;
      aload = pin_at L 0;
      ad = pin_at Ad 0;
      set = pin_at S 0;
      clr = pin_at R 0;
      d = pin_at D 0;
    }

    -- the inputs of a combinational cell
    abbrev words : List Pin → List (List Point)
    words ps = pin_points p wires ps A ∷ pin_points p wires ps B ∷ pin_points p wires ps S ∷ []

    words_paired : InPairs (InPairs P) (words pins) (words others)
    words_paired = (h (pin_text A), (h (pin_text B), (h (pin_text S), tt)))

    worked_paired : (shape : Shape) → signal_at pins (pin_text Y) ≡ signal_at others (pin_text Y) → Rows (outputs shape (words pins) (pin_points p wires pins Y) 0) (outputs shape (words others) (pin_points p wires others Y) 0)
    worked_paired shape e =
        subst (λ z. Rows (outputs shape (words pins) (pin_points p wires pins Y) 0) (outputs shape (words others) (points p wires z) 0)) e (outputs_paired shape (words pins) (words others) words_paired (pin_points p wires pins Y) 0)

    stored_paired : (start : SigBit → Bit) (shape : Shape) (f g : ℕ → StorePoints) → ((at : ℕ) → StoresBy P (f at) (g at)) → signal_at pins (pin_text Q) ≡ signal_at others (pin_text Q) → Rows (stores start shape f (signal_at pins (pin_text Q)) (pin_points p wires pins Q) 0) (stores start shape g (signal_at others (pin_text Q)) (pin_points p wires others Q) 0)
    stored_paired start shape f g s e =
        subst (λ z. Rows (stores start shape f (signal_at pins (pin_text Q)) (pin_points p wires pins Q) 0) (stores start shape g z (points p wires z) 0)) e (stores_paired start shape f g s (signal_at pins (pin_text Q)) (pin_points p wires pins Q) 0)

    -- an output port of an instance drives the same bits, from the same points
    abbrev pub IsUntouched : Frame → PortLine → Type 0
    IsUntouched f port =
        joins (points p wires (signal_at pins port.name)) (wire_points (f ∷ p) port.name 0 port.width)
        ≡ joins (points p wires (signal_at others port.name)) (wire_points (f ∷ p) port.name 0 port.width)

    instance_paired : (f : Frame) (ports : List PortLine) → ((port : PortLine) → In port ports → port.role ≡ Output → IsUntouched f port) → Rows (instance_rows p wires pins f ports) (instance_rows p wires others f ports)
    instance_paired f [] out = tt
    instance_paired f (port ∷ ports) out =
        pairs_append (SameBit related) (rows pins port.role) (rows others port.role) (instance_rows p wires pins f ports) (instance_rows p wires others f ports) (by port.role refl) (instance_paired f ports (λ q i. out q (inr i)))
      where
        inner : List Point
        inner = wire_points (f ∷ p) port.name 0 port.width

        rows : List Pin → Role → List Driven
        rows ps role = port_joins role (points p wires (signal_at ps port.name)) (wire_points (f ∷ p) port.name 0 port.width)

        by : (role : Role) → port.role ≡ role → Rows (port_joins role (points p wires (signal_at pins port.name)) (wire_points (f ∷ p) port.name 0 port.width)) (port_joins role (points p wires (signal_at others port.name)) (wire_points (f ∷ p) port.name 0 port.width))
        by Inner e = tt
        by Inout e = tt
        by Input e = joins_paired (wire_points (f ∷ p) port.name 0 port.width) (points p wires (signal_at pins port.name)) (points p wires (signal_at others port.name)) (h port.name)
        by Output e =
            subst (λ z. Rows (joins (points p wires (signal_at pins port.name)) (wire_points (f ∷ p) port.name 0 port.width)) z) (out port (inl refl) e) (rows_self (joins (points p wires (signal_at pins port.name)) (wire_points (f ∷ p) port.name 0 port.width)))

  module _ (start : SigBit → Bit) (over : Ports) (p : Path) (wires : List Wire) (c : Cell) (others : List Pin) (h : (name : List ℕ) → InPairs P (points p wires (signal_at c.pins name)) (points p wires (signal_at others name))) where
    -- the cell with other signals at its pins
    abbrev pub other : Cell
    other = record c { pins = others }

    -- what a cell of the library drives, it drives still
    abbrev pub Drives : CellKind → Type 0
    Drives kind =
        (name : PinName) → output_pin kind ≡ Some name → signal_at c.pins (pin_text name) ≡ signal_at others (pin_text name)

    kind_paired : (kind : CellKind) → Drives kind → Rows (kind_rows start p wires c kind) (kind_rows start p wires other kind)
    kind_paired (Word kind) out = worked_paired p wires c.pins others h (cell_shape (Word kind) c.params) (out Y refl)
    kind_paired (Gate kind) out = worked_paired p wires c.pins others h (cell_shape (Gate kind) c.params) (out Y refl)
    kind_paired (Storage kind) out =
        stored_paired p wires c.pins others h start (cell_shape (Storage kind) c.params) (word_store p wires c.pins) (word_store p wires others) (word_stores p wires c.pins others h) (out Q refl)
    kind_paired (StorageGate gate) out =
        stored_paired p wires c.pins others h start (cell_shape (StorageGate gate) c.params) (gate_store p wires c.pins) (gate_store p wires others) (gate_stores p wires c.pins others h) (out Q refl)
    kind_paired (Memory kind) out = tt

    -- the rows of a cell, by its kind or as an instance
    pub cell_paired : (o : Option CellKind) → ((kind : CellKind) → o ≡ Some kind → Drives kind) → (o ≡ None → (port : PortLine) → In port (over c.kind_name) → port.role ≡ Output → IsUntouched p wires c.pins others h (frame c.name c.kind_name) port) → Rows (cell_rows start over p wires c o) (cell_rows start over p wires other o)
    cell_paired (Some kind) out same = kind_paired kind (out kind refl)
    cell_paired None out same =
        instance_paired p wires c.pins others h (frame c.name c.kind_name) (over c.kind_name) (same refl)
