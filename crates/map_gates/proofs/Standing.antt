-- Gates that stand for a word cell: each bit of its output has a gate that says no less.
use Rattle.std.proofs.Common.{◌≡◌, ℕ, suc, ◌+◌, ◌<◌, ◌≤◌, List, [], ◌∷◌, ◌++◌, length, Some, inl, inr, refl, sym, ◌∙◌, ap, subst, arith}
use Rattle.cell_gate.specs.Gates.{output_of}
use Rattle.cell_types.specs.declared.gate.GateKind.{GateKind}
use Rattle.cell_types.specs.declared.gate.GateKind.TheVariants as GateOf
use Rattle.cell_types.specs.declared.kind.CellKind.{CellKind}
use Rattle.cell_types.specs.declared.kind.CellKind.TheVariants.{Gate, Word}
use Rattle.cell_types.specs.declared.pin_name.PinName.TheVariants.{A, B, S, Y}
use Rattle.cell_types.specs.declared.shape.Shape.{Shape}
use Rattle.cell_types.specs.declared.word.WordKind.{WordKind}
use Rattle.rtl_bits.specs.Knowledge.{Below}
use Rattle.rtl_bits.specs.declared.bit.Bit.{Bit}
use Rattle.rtl_ir.specs.Build.{Building}
use Rattle.rtl_ir.specs.Flat.Cell.{Ports, cell_kind, cell_rows, cell_shape, cells_rows, instance_of, instances, listed, outputs}
use Rattle.rtl_ir.specs.Flat.Driver.{Driven, Worked}
use Rattle.rtl_ir.specs.Flat.Place.{Path, Place}
use Rattle.rtl_ir.specs.Flat.Point.{Point, Constant, At, pin_points, point, points}
use Rattle.rtl_ir.specs.declared.cell.Cell.{Cell}
use Rattle.rtl_ir.specs.declared.cell.CellParam.{CellParam}
use Rattle.rtl_ir.specs.declared.cell.Pin.{Pin}
use Rattle.rtl_ir.specs.declared.wire.Wire.{Wire}
use Rattle.rtl_sig.specs.declared.sig.SigBit.{SigBit}
use Rattle.net_index.specs.BuilderNames.{gate_name}
use Rattle.net_model.proofs.Members.{In-left, In-right}
use Rattle.net_model.specs.Lists.{In}
use Rattle.net_model.specs.Refine.{IsMet}
use Rattle.net_model.specs.Run.{Time}
use Rattle.net_model.specs.Swap.{StandsFor}
use Rattle.net_model.specs.Valuation.{Valuation, read_words}
use Rattle.net_model.specs.Value.{gate_input, value_of, worked_of}
use Rattle.map_laws.specs.Expansion.{cells_added}
use Rattle.map_laws.specs.Operand.{pin_signal}
use Rattle.map_gates.specs.Gates.{each_bit}
use Rattle.map_gates.proofs.Adding.{added_is, cell_named, cells_from, puts}

-- a gate is named by its kind
pub gate_named : (kind : GateKind) (pins : List Pin) (n : ℕ) → cell_kind (cell_named (gate_name kind) [] pins n) ≡ Some (Gate kind)
unfolding cell_kind
gate_named GateOf.Buf pins n = refl
gate_named GateOf.Not pins n = refl
gate_named GateOf.And pins n = refl
gate_named GateOf.Nand pins n = refl
gate_named GateOf.Or pins n = refl
gate_named GateOf.Nor pins n = refl
gate_named GateOf.Xor pins n = refl
gate_named GateOf.Xnor pins n = refl
gate_named GateOf.AndNot pins n = refl
gate_named GateOf.OrNot pins n = refl
gate_named GateOf.Mux pins n = refl
gate_named GateOf.Nmux pins n = refl

pub shape_kind : (kind : CellKind) (params : List CellParam) → (cell_shape kind params).kind ≡ kind
unfolding cell_shape
shape_kind kind params = refl

-- what a gate gives
pub gate_value : (kind : GateKind) (inputs : List (List Point)) (t : Time Place) (w : Valuation)
    → value_of (Worked (cell_shape (Gate kind) []) inputs 0) t w ≡ output_of kind (gate_input (read_words w inputs) 0) (gate_input (read_words w inputs) 1) (gate_input (read_words w inputs) 2)
gate_value kind inputs t w = ap (λ k. worked_of k (cell_shape (Gate kind) []) (read_words w inputs) 0) (shape_kind (Gate kind) [])

-- no gate is an instance
pub no_instances : (cell : ℕ → ℕ → SigBit → Cell) (kind : CellKind) → ((at n : ℕ) (y : SigBit) → cell_kind (cell at n y) ≡ Some kind) → (at n : ℕ) (ys : List SigBit) → instances (cells_from cell at n ys) ≡ []
no_instances cell kind is at n [] = refl
no_instances cell kind is at n (y ∷ ys) =
    ap (λ k. listed (instance_of (cell at n y) k) ++ instances (cells_from cell (suc at) (n + 1) ys)) (is at n y) ∙ no_instances cell kind is (suc at) (n + 1) ys

module _ (ports : Ports) (start : SigBit → Bit) (p : Path) (wires : List Wire) (t : Time Place) (w : Valuation) (shape gate : Shape) (words : List (List Point)) (cell : ℕ → ℕ → SigBit → Cell) (bits : ℕ → List (List Point)) where
  -- where the gates have these rows, and each says no less than the word's bit at its place from one on, the rows of the gates
  -- settle the word's
  pub rows_met :
      (from high : ℕ) →
      ((at n : ℕ) (y : SigBit) → cell_rows start ports p wires (cell at n y) (cell_kind (cell at n y)) ≡ outputs gate (bits at) (point p wires y ∷ []) 0) →
      ((at : ℕ) (z : Bit) → at < high → Below (value_of (Worked gate (bits at) 0) t w) z → Below (value_of (Worked shape words (from + at)) t w) z) →
      (at n : ℕ) (ys : List SigBit) → at + length ys ≤ high → ((e : Driven) → In e (cells_rows start ports p wires (cells_from cell at n ys)) → IsMet e t w) →
      (d : Driven) → In d (outputs shape words (points p wires ys) (from + at)) → IsMet d t w
  rows_met from high is says at n [] le h d i = absurd i
  rows_met from high is says at n (y ∷ ys) le h d i =
      let next : from + suc at ≡ suc (from + at) = omega arith in
      by (point p wires y) refl
      (λ j. rows_met from high is says (suc at) (n + 1) ys (omega (arith, le)) (λ e k. h e (In-right e first rest k)) d (subst (λ z. In d (outputs shape words (points p wires ys) z)) (sym next) j)) i
    where
      first : List Driven
      first = cell_rows start ports p wires (cell at n y) (cell_kind (cell at n y))

      rest : List Driven
      rest = cells_rows start ports p wires (cells_from cell (suc at) (n + 1) ys)

      by : (l : Point) → point p wires y ≡ l → (In d (outputs shape words (points p wires ys) (suc (from + at))) → IsMet d t w) → In d (outputs shape words (l ∷ points p wires ys) (from + at)) → IsMet d t w
      by (Constant c) e later j = later j
      by (At q) e later (inl o) =
          let g : Driven = record { place = q; driver = Worked gate (bits at) 0 } in
          let here : In g first = subst (In g) (sym (is at n y ∙ ap (λ l. outputs gate (bits at) (l ∷ []) 0) e)) (inl refl) in
          subst (λ z. IsMet z t w) (sym o) (says at (w q) (omega (arith, le)) (h g (In-left g first rest here)))
      by (At q) e later (inr j) = later j

-- the words that a cell reads
abbrev pub words_of : Path → List Wire → Cell → List (List Point)
words_of p wires c = pin_points p wires c.pins A ∷ pin_points p wires c.pins B ∷ pin_points p wires c.pins S ∷ []

-- gates of one kind, one for each bit, stand for a word cell where each says no less than the word's bit
pub gates_stand : (ports : Ports) (start : SigBit → Bit) (wires : List Wire) (c : Cell) (kind : WordKind) (gate : GateKind) (cell : ℕ → ℕ → SigBit → Cell) (bits : Path → ℕ → List (List Point)) (b : Building)
    → cell_kind c ≡ Some (Word kind)
    → ((at n : ℕ) (y : SigBit) → cell_kind (cell at n y) ≡ Some (Gate gate))
    → ((p : Path) (at n : ℕ) (y : SigBit) → cell_rows start ports p wires (cell at n y) (Some (Gate gate)) ≡ outputs (cell_shape (Gate gate) []) (bits p at) (point p wires y ∷ []) 0)
    → ((p : Path) (t : Time Place) (w : Valuation) (at : ℕ) (z : Bit) → Below (value_of (Worked (cell_shape (Gate gate) []) (bits p at) 0) t w) z → Below (value_of (Worked (cell_shape (Word kind) c.params) (words_of p wires c) at) t w) z)
    → StandsFor ports start wires c (cells_added b (each_bit (puts cell) 0 (pin_signal c Y) b))
gates_stand ports start wires c kind gate cell bits b word is rows says = record {
  children =
      ap instances (added_is cell (pin_signal c Y) b) ∙ no_instances cell (Gate gate) is 0 b.next (pin_signal c Y) ∙ ap (λ k. listed (instance_of c k) ++ []) (sym word);
  rows = λ p t w s before d i.
      let shape : Shape = cell_shape (Word kind) c.params in
      let own : (at : ℕ) → at ≡ 0 + at = λ at. omega arith in
      rows_met ports start p wires t w shape (cell_shape (Gate gate) []) (words_of p wires c) cell (bits p) 0 (length (pin_signal c Y))
      (λ at n y. ap (cell_rows start ports p wires (cell at n y)) (is at n y) ∙ rows p at n y)
      (λ at z lt h. subst (λ k. Below (value_of (Worked shape (words_of p wires c) k) t w) z) (own at) (says p t w at z h)) 0 b.next (pin_signal c Y) (omega arith)
      (λ e j. s.met e (subst (λ cells. In e (cells_rows start ports p wires cells)) (sym (added_is cell (pin_signal c Y) b)) j))
      d (subst (λ k. In d (cell_rows start ports p wires c k)) word i);
}
