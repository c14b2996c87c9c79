-- Two cells with one cell's traits drive alike, where bits are read as what they are followed to.
use Rattle.std.proofs.Common.{◌≡◌, ℕ, zero, suc, List, [], ◌∷◌, map, inl, inr, refl, sym, ap, subst}
use Rattle.rtl_bits.specs.declared.bit.Bit.{Bit}
use Rattle.rtl_bits.specs.declared.bit.Bit.TheVariants.{X}
use Rattle.rtl_bits.specs.Knowledge.{Below}
use Rattle.rtl_bits.proofs.Orders.{Below_refl}
use Rattle.rtl_sig.specs.declared.sig.SigBit.{SigBit}
use Rattle.rtl_sig.specs.declared.sig.SigBit.TheVariants.{Wire as OnWire}
use Rattle.rtl_sig.specs.declared.sig.WireBit.{WireBit}
use Rattle.cell_types.specs.declared.kind.CellKind.{CellKind}
use Rattle.cell_types.specs.declared.kind.CellKind.TheVariants.{Word, Gate, Storage, StorageGate, Memory}
use Rattle.cell_types.specs.declared.pin_name.PinName.{PinName}
use Rattle.cell_types.specs.declared.pin_name.PinName.TheVariants.{A, B, S, Clk, En, Arst, Srst, Aload, Set, Clr, Ad, D, C, E, R, L}
use Rattle.cell_types.specs.declared.shape.Shape.{Shape}
use Rattle.cell_types.specs.PinName.{pin_text}
use Rattle.cell_gate.specs.Storage.{PinsBelow}
use Rattle.rtl_ir.specs.declared.cell.Cell.{Cell}
use Rattle.rtl_ir.specs.declared.module.Link.{Link}
use Rattle.rtl_ir.specs.declared.wire.Wire.{Wire}
use Rattle.rtl_ir.specs.Flat.Cell.{cell_shape, gate_store, word_store}
use Rattle.rtl_ir.specs.Flat.Driver.{StorePoints, Stored, Worked}
use Rattle.rtl_ir.specs.Flat.Place.{Path, Place}
use Rattle.rtl_ir.specs.Flat.Point.{At, Constant, Point, bit_place, point, point_at, points}
use Rattle.rtl_ir.specs.Follow.{follow}
use Rattle.rtl_ir.specs.Parameters.{signal_at}
use Rattle.net_model.specs.Lists.{In}
use Rattle.net_model.specs.Run.{Time, Start, Step}
use Rattle.net_model.specs.Valuation.{Valuation}
use Rattle.net_model.specs.Value.{pins_of, value_of}
use Rattle.net_model.proofs.Orders.{below}
use Rattle.pass_laws.proofs.Driving.{input_points, own_driver}
use Rattle.follow_laws.specs.Alike.{Alike, AlikeBefore, InPairs, ReadAlike}
use Rattle.follow_laws.proofs.Carrying.{StoresBy}
use Rattle.follow_laws.proofs.Following.{Alike_trans}
use Rattle.follow_laws.proofs.Reading.{carries}
use Rattle.opt_merge.specs.Traits.{Traits, input_pins, shape_numbers, traits_of}
use Rattle.opt_merge.proofs.Numbers.{shape_inj}

-- two functions that map a list alike agree on each of its members
map_same : {A B : Type 0} (f g : A → B) (xs : List A) → map f xs ≡ map g xs → (x : A) → In x xs → f x ≡ g x
map_same f g [] e x i = absurd i
map_same f g (y ∷ ys) e x (inl same) =
    let head : f y ≡ g y = cc in
    subst (λ z. f z ≡ g z) (sym same) head
map_same f g (y ∷ ys) e x (inr i) =
    let tail : map f ys ≡ map g ys = cc in
    map_same f g ys tail x i

-- shapes of cells of one kind that say the same
shapes_same : (kind : CellKind) (c e : Cell) → shape_numbers (cell_shape kind c.params) ≡ shape_numbers (cell_shape kind e.params) → cell_shape kind c.params ≡ cell_shape kind e.params
unfolding cell_shape
shapes_same kind c e h = shape_inj (cell_shape kind c.params) (cell_shape kind e.params) refl h

shape_kind : (kind : CellKind) (c : Cell) → (cell_shape kind c.params).kind ≡ kind
unfolding cell_shape
shape_kind kind c = refl

-- what storage cells keep starts alike
abbrev pub SameStart : (SigBit → Bit) → CellKind → WireBit → WireBit → Type 0
SameStart start (Word k) b d = Unit {0}
SameStart start (Gate k) b d = Unit {0}
SameStart start (Storage k) b d = start (OnWire b) ≡ start (OnWire d)
SameStart start (StorageGate g) b d = start (OnWire b) ≡ start (OnWire d)
SameStart start (Memory k) b d = Unit {0}

module _ (t : Time Place) (w : Valuation) where
  pub read_self : (a : Point) → ReadAlike t w a a
  read_self a = (carries t w).same_point a

  before_turned : (u : Time Place) (a b : Point) → AlikeBefore u a b → AlikeBefore u b a
  before_turned Start a b h = tt
  before_turned (Step v x first) a b h = record { there = h.back; back = h.there }

  before_both : (u : Time Place) (a b c : Point) → AlikeBefore u a b → AlikeBefore u b c → AlikeBefore u a c
  before_both Start a b c h k = tt
  before_both (Step v x first) a b c h k = Alike_trans v a b c h k

  read_turned : (a b : Point) → ReadAlike t w a b → ReadAlike t w b a
  read_turned a b h = record { before = before_turned t a b h.before; now = record { there = h.now.back; back = h.now.there } }

  read_both : (a b c : Point) → ReadAlike t w a b → ReadAlike t w b c → ReadAlike t w a c
  read_both a b c h k = record { before = before_both t a b c h.before k.before; now = Alike_trans w a b c h.now k.now }

  -- storage bits at other places, whose own bits are read alike
  stored_alike : (start : Bit) (shape : Shape) (at : ℕ) (a b : StorePoints) (own other : Place) → StoresBy (ReadAlike t w) a b → ReadAlike t w (At own) (At other)
      → Below (value_of (Stored start shape at a own) t w) (value_of (Stored start shape at b other) t w)
  stored_alike start shape at a b own other h k = by t (λ x y r. r.before) h k.before
    where
      pins : (v : Valuation) → StoresBy (Alike v) a b → Alike v (At own) (At other) → PinsBelow Below (pins_of v a own) (pins_of v b other)
      pins v s q = record {
        clk = s.clk.there;
        en = s.en.there;
        arst = s.arst.there;
        srst = s.srst.there;
        aload = s.aload.there;
        ad = s.ad.there;
        set = s.set.there;
        clr = s.clr.there;
        d = s.d.there;
        q = q.there;
      }

      each : (F G : Point → Point → Type 0) → ((x y : Point) → F x y → G x y) → StoresBy F a b → StoresBy G a b
      each F G f s = record {
        clk = f a.clk b.clk s.clk;
        en = f a.en b.en s.en;
        arst = f a.arst b.arst s.arst;
        srst = f a.srst b.srst s.srst;
        aload = f a.aload b.aload s.aload;
        ad = f a.ad b.ad s.ad;
        set = f a.set b.set s.set;
        clr = f a.clr b.clr s.clr;
        d = f a.d b.d s.d;
      }

      by : (u : Time Place) → ((x y : Point) → ReadAlike t w x y → AlikeBefore u x y) → StoresBy (ReadAlike t w) a b → AlikeBefore u (At own) (At other)
          → Below (value_of (Stored start shape at a own) u w) (value_of (Stored start shape at b other) u w)
      by Start f s q = Below_refl start
      by (Step v x first) f s q =
          below.storage shape at first _ _ _ _ (pins v (each (ReadAlike t w) (Alike v) f s) q) (pins w (each (ReadAlike t w) (Alike w) (λ y z r. r.now) s) k.now)

  -- signals that are followed to one
  module _ (p : Path) (wires : List Wire) (links : List Link) (reads : (s : SigBit) → ReadAlike t w (point p wires s) (point p wires (follow links s))) where
    signals_alike : (xs ys : List SigBit) → map (follow links) xs ≡ map (follow links) ys → InPairs (ReadAlike t w) (points p wires xs) (points p wires ys)
    signals_alike [] [] e = tt
    signals_alike [] (y ∷ ys) e = absurd (cc)
    signals_alike (x ∷ xs) [] e = absurd (cc)
    signals_alike (x ∷ xs) (y ∷ ys) e =
        let head : follow links x ≡ follow links y = cc in
        let tail : map (follow links) xs ≡ map (follow links) ys = cc in (
          read_both (point p wires x) (point p wires (follow links x)) (point p wires y) (reads x)
              (subst (λ z. ReadAlike t w (point p wires z) (point p wires y)) (sym head) (read_turned (point p wires y) (point p wires (follow links y)) (reads y))),
          signals_alike xs ys tail,
        )

    pairs_at : (xs ys : List Point) → InPairs (ReadAlike t w) xs ys → (k : ℕ) → ReadAlike t w (point_at xs k) (point_at ys k)
    pairs_at [] [] h k = read_self (Constant X)
    pairs_at [] (y ∷ ys) h k = absurd h
    pairs_at (x ∷ xs) [] h k = absurd h
    pairs_at (x ∷ xs) (y ∷ ys) h zero = h.0
    pairs_at (x ∷ xs) (y ∷ ys) h (suc k) = pairs_at xs ys h.1 k

    module _ (start : SigBit → Bit) (kind : CellKind) (c e : Cell) (same : traits_of start links kind c ≡ traits_of start links kind e) where
      shape : cell_shape kind c.params ≡ cell_shape kind e.params
      shape = shapes_same kind c e (ap (λ (u : Traits). u.params) same)

      inputs : (name : PinName) → In name (input_pins kind) → InPairs (ReadAlike t w) (points p wires (signal_at c.pins (pin_text name))) (points p wires (signal_at e.pins (pin_text name)))
      inputs name i =
          signals_alike (signal_at c.pins (pin_text name)) (signal_at e.pins (pin_text name))
          (map_same (λ n. map (follow links) (signal_at c.pins (pin_text n))) (λ n. map (follow links) (signal_at e.pins (pin_text n))) (input_pins kind) (ap (λ (u : Traits). u.inputs) same) name i)

      input_at : (name : PinName) → In name (input_pins kind) → (k : ℕ) → ReadAlike t w (point_at (points p wires (signal_at c.pins (pin_text name))) k) (point_at (points p wires (signal_at e.pins (pin_text name))) k)
      input_at name i k = pairs_at _ _ (inputs name i) k

    -- what drives a bit of the one gives no more than what drives the bit of the other
    pub drives_alike : (start : SigBit → Bit) (kind : CellKind) (c e : Cell) → traits_of start links kind c ≡ traits_of start links kind e → (at : ℕ) (b d : WireBit)
        → SameStart start kind b d → ReadAlike t w (At (bit_place p wires b)) (At (bit_place p wires d))
        → Below (value_of (own_driver start p wires c kind at b) t w) (value_of (own_driver start p wires e kind at d) t w)
    drives_alike start (Word k) c e same at b d starts own =
        let pins = inputs start (Word k) c e same in
        subst (λ s. Below (value_of (own_driver start p wires c (Word k) at b) t w) (value_of (Worked s (input_points p wires e) at) t w)) (shape start (Word k) c e same)
        ((carries t w).worked (cell_shape (Word k) c.params) (input_points p wires c) (input_points p wires e) at (pins A (inl refl), (pins B (inr (inl refl)), (pins S (inr (inr (inl refl))), tt)))).there
    drives_alike start (Gate k) c e same at b d starts own =
        let pins = inputs start (Gate k) c e same in
        subst (λ s. Below (value_of (own_driver start p wires c (Gate k) at b) t w) (value_of (Worked s (input_points p wires e) at) t w)) (shape start (Gate k) c e same)
        ((carries t w).worked (cell_shape (Gate k) c.params) (input_points p wires c) (input_points p wires e) at (pins A (inl refl), (pins B (inr (inl refl)), (pins S (inr (inr (inl refl))), tt)))).there
    drives_alike start (Storage k) c e same at b d starts own =
        let pin = input_at start (Storage k) c e same in
        let sh = shape start (Storage k) c e same in
        let st = starts in
        subst (λ s. Below (value_of (own_driver start p wires c (Storage k) at b) t w) (value_of (Stored (start (OnWire d)) s at (word_store p wires e.pins at) (bit_place p wires d)) t w)) sh
        (subst (λ s. Below (value_of (own_driver start p wires c (Storage k) at b) t w) (value_of (Stored s (cell_shape (Storage k) c.params) at (word_store p wires e.pins at) (bit_place p wires d)) t w)) st
        (stored_alike (start (OnWire b)) (cell_shape (Storage k) c.params) at (word_store p wires c.pins at) (word_store p wires e.pins at) (bit_place p wires b) (bit_place p wires d)
        (record {
          clk = pin Clk (inl refl) 0;
          en = pin En (inr (inl refl)) 0;
          arst = pin Arst (inr (inr (inl refl))) 0;
          srst = pin Srst (inr (inr (inr (inl refl)))) 0;
          aload = pin Aload (inr (inr (inr (inr (inl refl))))) 0;
          set = pin Set (inr (inr (inr (inr (inr (inl refl)))))) at;
          clr = pin Clr (inr (inr (inr (inr (inr (inr (inl refl))))))) at;
          ad = pin Ad (inr (inr (inr (inr (inr (inr (inr (inl refl)))))))) at;
          d = pin D (inr (inr (inr (inr (inr (inr (inr (inr (inl refl))))))))) at;
        }) own))
    drives_alike start (StorageGate g) c e same at b d starts own =
        let pin = input_at start (StorageGate g) c e same in
        let sh = shape start (StorageGate g) c e same in
        let st = starts in
        subst (λ s. Below (value_of (own_driver start p wires c (StorageGate g) at b) t w) (value_of (Stored (start (OnWire d)) s at (gate_store p wires e.pins at) (bit_place p wires d)) t w)) sh
        (subst (λ s. Below (value_of (own_driver start p wires c (StorageGate g) at b) t w) (value_of (Stored s (cell_shape (StorageGate g) c.params) at (gate_store p wires e.pins at) (bit_place p wires d)) t w)) st
        (stored_alike (start (OnWire b)) (cell_shape (StorageGate g) c.params) at (gate_store p wires c.pins at) (gate_store p wires e.pins at) (bit_place p wires b) (bit_place p wires d)
        (record {
          clk = pin C (inl refl) 0;
          en = pin E (inr (inl refl)) 0;
          arst = pin R (inr (inr (inl refl))) 0;
          srst = pin R (inr (inr (inl refl))) 0;
          aload = pin L (inr (inr (inr (inl refl)))) 0;
          ad = pin Ad (inr (inr (inr (inr (inl refl))))) 0;
          set = pin S (inr (inr (inr (inr (inr (inl refl)))))) 0;
          clr = pin R (inr (inr (inl refl))) 0;
          d = pin D (inr (inr (inr (inr (inr (inr (inl refl))))))) 0;
        }) own))
    drives_alike start (Memory k) c e same at b d starts own = tt
