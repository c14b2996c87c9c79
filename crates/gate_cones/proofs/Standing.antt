-- What the gates of a cone give in each solution of the rows of a module: what the cone gives for the bits at its leaves.
use Rattle.std.proofs.Common.{◌≡◌, ℕ, List, [], ◌∷◌, Some, inl, inr, refl, sym, ◌∙◌, ap, subst}
use Rattle.std.specs.Prelude.{slice_get, slice_index_or}
use Rattle.cell_gate.proofs.Monotone.{output_below}
use Rattle.cell_gate.specs.Gates.{output_of}
use Rattle.cell_types.specs.declared.gate.GateKind.{GateKind}
use Rattle.cell_types.specs.declared.gate.GateKind.TheVariants.{Buf}
use Rattle.cell_types.specs.declared.kind.CellKind.{CellKind}
use Rattle.cell_types.specs.declared.kind.CellKind.TheVariants.{Gate}
use Rattle.rtl_bits.proofs.Orders.{Below_from_equal, Below_trans}
use Rattle.rtl_bits.specs.Knowledge.{Below}
use Rattle.rtl_bits.specs.declared.bit.Bit.{Bit}
use Rattle.rtl_bits.specs.declared.bit.Bit.TheVariants.{X}
use Rattle.rtl_sig.specs.declared.sig.SigBit.{SigBit}
use Rattle.rtl_sig.specs.declared.sig.WireBit.{WireBit}
use Rattle.rtl_ir.specs.Flat.Cell.{Ports, cell_kind, cell_rows, cell_shape, cells_rows, kind_rows}
use Rattle.rtl_ir.specs.Flat.Driver.{Driven}
use Rattle.rtl_ir.specs.Flat.Place.{Path, Place}
use Rattle.rtl_ir.specs.Flat.Point.{point, points}
use Rattle.rtl_ir.specs.declared.cell.Cell.{Cell}
use Rattle.rtl_ir.specs.declared.cell.CellParam.{CellParam}
use Rattle.rtl_ir.specs.declared.wire.Wire.{Wire}
use Rattle.net_model.proofs.Members.{In-left, In-right}
use Rattle.net_model.specs.Lists.{In}
use Rattle.net_model.specs.Refine.{Solved}
use Rattle.net_model.specs.Run.{Time}
use Rattle.net_model.specs.Valuation.{Valuation, read, read_all, read_words}
use Rattle.net_model.specs.Value.{value_of, worked_of}
use Rattle.pass_laws.proofs.Driving.{input_points, own_driver, own_in, row_of}
use Rattle.gate_cones.specs.declared.cone.Cone.{Cone}
use Rattle.gate_cones.specs.declared.cone.Cone.TheVariants.{At, Fixed, One', Two', Three'}
use Rattle.gate_cones.specs.declared.row.Leaf.{Leaf}
use Rattle.gate_cones.specs.declared.row.Leaf.TheVariants.{L0, L1, L2, L3, L4}
use Rattle.gate_cones.specs.declared.row.Row.{Row}
use Rattle.gate_cones.specs.Cone.{cone_value}
use Rattle.gate_cones.specs.Netlist.{Drives, Give, IsGateOf, IsRoot, Leaves}
use Rattle.gate_cones.specs.Row.{bit_at}

-- two bits that say the same
abbrev pub Same : Bit → Bit → Type 0
Same a b = Below a b × Below b a

same_equal : (a b : Bit) → a ≡ b → Same a b
same_equal a b e = (Below_from_equal a b e, Below_from_equal b a (sym e))

same_trans : (a b c : Bit) → Same a b → Same b c → Same a c
same_trans a b c h k = (Below_trans a b c h.0 k.0, Below_trans c b a k.1 h.1)

same_output : (kind : GateKind) (a a' b b' s s' : Bit) → Same a a' → Same b b' → Same s s' → Same (output_of kind a b s) (output_of kind a' b' s')
same_output kind a a' b b' s s' h i j =
    (output_below kind a a' b b' s s' h.0 i.0 j.0, output_below kind a' a b' b s' s h.1 i.1 j.1)

same_unknown : Same X X
same_unknown = (tt, tt)

shape_kind : (kind : CellKind) (params : List CellParam) → (cell_shape kind params).kind ≡ kind
unfolding cell_shape
shape_kind kind params = refl

-- the rows of one cell are among those of all
rows_among : (start : SigBit → Bit) (ports : Ports) (p : Path) (wires : List Wire) (cells : List Cell) (c : Cell) → In c cells → (d : Driven) → In d (cell_rows start ports p wires c (cell_kind c)) → In d (cells_rows start ports p wires cells)
rows_among start ports p wires [] c i d j = absurd i
rows_among start ports p wires (x ∷ cells) c (inl e) d j =
    In-left d _ _ (subst (λ z. In d (cell_rows start ports p wires z (cell_kind z))) e j)
rows_among start ports p wires (x ∷ cells) c (inr i) d j =
    In-right d (cell_rows start ports p wires x (cell_kind x)) _ (rows_among start ports p wires cells c i d j)

-- the kind of the gate at the root; a cone without a gate has none
abbrev pub root_kind : Cone → GateKind
root_kind (At leaf) = Buf
root_kind (Fixed b) = Buf
root_kind (One' kind u a) = kind
root_kind (Two' kind u a v b) = kind
root_kind (Three' kind u a v b r s) = kind

pub root_own : (cells : List Cell) (leaves : Leaves) (cone : Cone) (c : Cell) → IsRoot cells leaves cone c → cell_kind c ≡ Some (Gate (root_kind cone))
root_own cells leaves (At leaf) c root = absurd root
root_own cells leaves (Fixed b) c root = absurd root
root_own cells leaves (One' kind u a) c root = root.1.own
root_own cells leaves (Two' kind u a v b) c root = root.2.own
root_own cells leaves (Three' kind u a v b r s) c root = root.3.own

module _ (start : SigBit → Bit) (p : Path) (wires : List Wire) (t : Time Place) (w : Valuation) (leaves : Leaves) where
  -- what a bit of the module has
  abbrev pub bit_of : SigBit → Bit
  bit_of s = read w (point p wires s)

  -- what the bits at the leaves have
  abbrev pub leaf_row : Row
  leaf_row = record {
    l0 = read w (point p wires (leaves L0));
    l1 = read w (point p wires (leaves L1));
    l2 = read w (point p wires (leaves L2));
    l3 = read w (point p wires (leaves L3));
    l4 = read w (point p wires (leaves L4));
  }

  at_leaf : (leaf : Leaf) → read w (point p wires (leaves leaf)) ≡ bit_at leaf_row leaf
  at_leaf L0 = refl
  at_leaf L1 = refl
  at_leaf L2 = refl
  at_leaf L3 = refl
  at_leaf L4 = refl

  -- the first bit of a signal
  abbrev first : List SigBit → Bit
  first signal = slice_index_or (read_all w (points p wires signal)) 0 X

  -- what a gate gives
  gate_gives : (kind : GateKind) (c : Cell) (a b s : List SigBit) → IsGateOf kind c a b s → (at : ℕ) (y : WireBit) → value_of (own_driver start p wires c (Gate kind) at y) t w ≡ output_of kind (first a) (first b) (first s)
  gate_gives kind c a b s g at y =
      ap (λ k. worked_of k (cell_shape (Gate kind) c.params) (read_words w (input_points p wires c)) at) (shape_kind (Gate kind) c.params)
      ∙ (λ i. output_of kind (first (g.a i)) (first (g.b i)) (first (g.s i)))

  module _ (ports : Ports) (cells : List Cell) (rows : List Driven) (among : (d : Driven) → In d (cells_rows start ports p wires cells) → In d rows) (solved : Solved rows t w) where
    -- the bit of a gate says what the gate gives
    driven_bit : (kind : GateKind) (c : Cell) (a b s : List SigBit) → IsGateOf kind c a b s → In c cells → (y : SigBit) → Drives c y → Same (read w (point p wires y)) (output_of kind (first a) (first b) (first s))
    driven_bit kind c a b s g i y h =
        let row : Driven = row_of p wires h.bit (own_driver start p wires c (Gate kind) 0 h.bit) in
        let own : In row (kind_rows start p wires c (Gate kind)) = own_in p wires start c (Gate kind) refl 0 h.bit (ap (λ z. slice_get z 0) h.output) in
        let inside : In row rows = among row (rows_among start ports p wires cells c i row (subst (λ k. In row (cell_rows start ports p wires c k)) (sym g.own) own)) in
        let gives : value_of row.driver t w ≡ output_of kind (first a) (first b) (first s) = gate_gives kind c a b s g 0 h.bit in
        let bit : Same (w row.place) (value_of row.driver t w) = (solved.tight row inside, solved.met row inside) in
        same_trans _ _ _ (same_equal (read w (point p wires y)) (w row.place) (ap (λ z. read w (point p wires z)) h.is))
        (same_trans _ _ _ bit (same_equal (value_of row.driver t w) (output_of kind (first a) (first b) (first s)) gives))

    -- a bit at which cells give a cone says what the cone gives
    pub given_bit : (cone : Cone) (y : SigBit) → Give cells leaves cone y → Same (read w (point p wires y)) (cone_value cone leaf_row)
    given_bit (At leaf) y e = same_equal _ _ (ap (λ z. read w (point p wires z)) e ∙ at_leaf leaf)
    given_bit (Fixed b) y e = same_equal _ _ (ap (λ z. read w (point p wires z)) e)
    given_bit (One' kind u a) y g =
        same_trans _ _ _ (driven_bit kind g.0 (g.3 ∷ []) [] [] g.4 g.1 y g.2)
        (same_output kind _ _ X X X X (given_bit a g.3 g.5) same_unknown same_unknown)
    given_bit (Two' kind u a v b) y g =
        same_trans _ _ _ (driven_bit kind g.0 (g.3 ∷ []) (g.4 ∷ []) [] g.5 g.1 y g.2)
        (same_output kind _ _ _ _ X X (given_bit a g.3 g.6) (given_bit b g.4 g.7) same_unknown)
    given_bit (Three' kind u a v b r s) y g =
        same_trans _ _ _ (driven_bit kind g.0 (g.3 ∷ []) (g.4 ∷ []) (g.5 ∷ []) g.6 g.1 y g.2)
        (same_output kind _ _ _ _ _ _ (given_bit a g.3 g.7) (given_bit b g.4 g.8) (given_bit s g.5 g.9))

    -- and the gate at its root gives it
    pub root_gives : (cone : Cone) (c : Cell) → IsRoot cells leaves cone c → (at : ℕ) (y : WireBit) → Same (value_of (own_driver start p wires c (Gate (root_kind cone)) at y) t w) (cone_value cone leaf_row)
    root_gives (At leaf) c root at y = absurd root
    root_gives (Fixed b) c root at y = absurd root
    root_gives (One' kind u a) c root at y =
        same_trans _ _ _ (same_equal _ _ (gate_gives kind c (root.0 ∷ []) [] [] root.1 at y))
        (same_output kind _ _ X X X X (given_bit a root.0 root.2) same_unknown same_unknown)
    root_gives (Two' kind u a v b) c root at y =
        same_trans _ _ _ (same_equal _ _ (gate_gives kind c (root.0 ∷ []) (root.1 ∷ []) [] root.2 at y))
        (same_output kind _ _ _ _ X X (given_bit a root.0 root.3) (given_bit b root.1 root.4) same_unknown)
    root_gives (Three' kind u a v b r s) c root at y =
        same_trans _ _ _ (same_equal _ _ (gate_gives kind c (root.0 ∷ []) (root.1 ∷ []) (root.2 ∷ []) root.3 at y))
        (same_output kind _ _ _ _ _ _ (given_bit a root.0 root.4) (given_bit b root.1 root.5) (given_bit s root.2 root.6))
