-- The gates of the cells that work bit by bit stand for them.
use Rattle.std.proofs.Common.{◌≡◌, ℕ, Bool, false, List, [], ◌∷◌, Some, refl, sym, ◌∙◌, ap, subst}
use Rattle.std.specs.Prelude.{slice_index_or}
use Rattle.cell_gate.specs.Gates.{output_of}
use Rattle.cell_types.specs.declared.gate.GateKind.TheVariants as GateOf
use Rattle.cell_types.specs.declared.kind.CellKind.TheVariants.{Gate, Word}
use Rattle.cell_types.specs.declared.pin_name.PinName.TheVariants.{A, B, S, Y}
use Rattle.cell_types.specs.declared.shape.Shape.{Shape}
use Rattle.cell_types.specs.declared.word.BitwiseKind.{BitwiseKind}
use Rattle.cell_types.specs.declared.word.BitwiseKind.TheVariants.{And, Or, Xor, Xnor}
use Rattle.cell_types.specs.declared.word.UnaryKind.TheVariants.{Not}
use Rattle.cell_types.specs.declared.word.WordKind.{WordKind}
use Rattle.cell_types.specs.declared.word.WordKind.TheVariants.{Unary, Bitwise, Mux, Bwmux}
use Rattle.cell_word.specs.Bitwise.{bit_by}
use Rattle.cell_word.specs.Values as word_values
use Rattle.cell_word.specs.Values.{both_signed, input_of, value_by}
use Rattle.cell_word.specs.Words.{extended_at}
use Rattle.rtl_bits.proofs.Orders.{Below_trans}
use Rattle.rtl_bits.proofs.Tables.{mux_of_mono}
use Rattle.rtl_bits.specs.Knowledge.{Below}
use Rattle.rtl_bits.specs.Tables.{mux_of, not_of}
use Rattle.rtl_bits.specs.declared.bit.Bit.{Bit}
use Rattle.rtl_bits.specs.declared.bit.Bit.TheVariants.{X}
use Rattle.rtl_ir.specs.Build.{Building}
use Rattle.rtl_ir.specs.Flat.Cell.{Ports, cell_kind, cell_shape}
use Rattle.rtl_ir.specs.Flat.Driver.{Worked}
use Rattle.rtl_ir.specs.Flat.Place.{Place}
use Rattle.rtl_ir.specs.Flat.Point.{Point, point, points}
use Rattle.rtl_ir.specs.declared.cell.Cell.{Cell}
use Rattle.rtl_ir.specs.declared.wire.Wire.{Wire}
use Rattle.rtl_sig.specs.declared.sig.SigBit.{SigBit}
use Rattle.net_index.specs.BuilderNames.{gate_name}
use Rattle.net_model.specs.Run.{Time}
use Rattle.net_model.specs.Swap.{StandsFor}
use Rattle.net_model.specs.Valuation.{Valuation, read, read_all, read_words}
use Rattle.net_model.specs.Value.{value_of, worked_of}
use Rattle.gate_nets.specs.Gate.{gate_for}
use Rattle.map_gates.specs.Expand.{gates_of}
use Rattle.map_laws.specs.Expansion.{cells_added}
use Rattle.map_laws.specs.Operand.{pin_signal}
use Rattle.gate_nets.specs.Gate.{one}
use Rattle.map_gates.specs.Gates.{bit_at}
use Rattle.map_gates.proofs.Adding.{cell_named}
use Rattle.gate_nets.proofs.Values.{word_below}
use Rattle.map_gates.proofs.Operands.{operand_below, operand_read}
use Rattle.map_gates.proofs.Standing.{gate_named, gate_value, gates_stand, shape_kind, words_of}

-- a bit of a word cell's output
word_value : (kind : WordKind) (shape : Shape) (inputs : List (List Point)) (at : ℕ) (t : Time Place) (w : Valuation) → shape.kind ≡ Word kind
    → value_of (Worked shape inputs at) t w ≡ slice_index_or (word_values.value_of kind shape (input_of (read_words w inputs) 0) (input_of (read_words w inputs) 1) (input_of (read_words w inputs) 2)) at X
word_value kind shape inputs at t w e =
    ap (λ k. worked_of k shape (read_words w inputs) at) e ∙ ap (λ k. slice_index_or (value_by k shape (read_words w inputs)) at X) e

-- what a kind makes of two bits is what its gate gives
same_gate : (kind : BitwiseKind) (a b s : Bit) → bit_by kind a b ≡ output_of (gate_for kind) a b s
same_gate And a b s = refl
same_gate Or a b s = refl
same_gate Xor a b s = refl
same_gate Xnor a b s = refl

module _ (ports : Ports) (start : SigBit → Bit) (wires : List Wire) (c : Cell) (b : Building) where
  -- what the word cell of a kind may become
  abbrev Stands : WordKind → Type 0
  Stands kind = StandsFor ports start wires c (cells_added b (gates_of (Word kind) (cell_shape (Word kind) c.params) c b))

  -- the bits at the pins A, B and S
  abbrev a_at : Bool → ℕ → SigBit
  a_at signed at = bit_at signed (pin_signal c A) at

  abbrev b_at : Bool → ℕ → SigBit
  b_at signed at = bit_at signed (pin_signal c B) at

  abbrev s_at : SigBit
  s_at = bit_at false (pin_signal c S) 0

  abbrev s_at_each : ℕ → SigBit
  s_at_each at = bit_at false (pin_signal c S) at

  pub inverse_stands : cell_kind c ≡ Some (Word (Unary Not)) → Stands (Unary Not)
  inverse_stands word = by (cell_shape (Word (Unary Not)) c.params) refl
    where
      by : (shape : Shape) → shape ≡ cell_shape (Word (Unary Not)) c.params → StandsFor ports start wires c (cells_added b (gates_of (Word (Unary Not)) shape c b))
      by shape e =
          gates_stand ports start wires c (Unary Not) GateOf.Not
          (λ at n y. cell_named (gate_name GateOf.Not) [] (one A (a_at shape.signs.a at) ∷ one Y y ∷ []) n)
          (λ p at. (point p wires (a_at shape.signs.a at) ∷ []) ∷ [] ∷ [] ∷ []) b word
          (λ at n y. gate_named GateOf.Not (one A (a_at shape.signs.a at) ∷ one Y y ∷ []) n)
          (λ p at n y. refl)
          (λ p t w at z h.
          let value : value_of (Worked (cell_shape (Gate GateOf.Not) []) ((point p wires (a_at shape.signs.a at) ∷ []) ∷ [] ∷ [] ∷ []) 0) t w ≡ not_of (extended_at shape.signs.a (read_all w (points p wires (pin_signal c A))) at) =
          gate_value GateOf.Not ((point p wires (a_at shape.signs.a at) ∷ []) ∷ [] ∷ [] ∷ []) t w ∙ ap not_of (sym (operand_read p wires w shape.signs.a (pin_signal c A) at))
          in
          let below = word_below (λ at. not_of (extended_at shape.signs.a (read_all w (points p wires (pin_signal c A))) at)) shape.widths.y at z (λ lt. subst (λ v. Below v z) value h) in
          let same : value_of (Worked shape (words_of p wires c) at) t w ≡ value_of (Worked (cell_shape (Word (Unary Not)) c.params) (words_of p wires c) at) t w = ap (λ s. value_of (Worked s (words_of p wires c) at) t w) e in
          subst (λ v. Below v z) (sym (word_value (Unary Not) shape (words_of p wires c) at t w (ap (λ s. s.kind) e ∙ shape_kind (Word (Unary Not)) c.params)) ∙ same) below)

  pub bitwise_stands : (kind : BitwiseKind) → cell_kind c ≡ Some (Word (Bitwise kind)) → Stands (Bitwise kind)
  bitwise_stands kind word = by (cell_shape (Word (Bitwise kind)) c.params) refl
    where
      by : (shape : Shape) → shape ≡ cell_shape (Word (Bitwise kind)) c.params → StandsFor ports start wires c (cells_added b (gates_of (Word (Bitwise kind)) shape c b))
      by shape e =
          gates_stand ports start wires c (Bitwise kind) (gate_for kind)
          (λ at n y. cell_named (gate_name (gate_for kind)) [] (one A (a_at (both_signed shape) at) ∷ one B (b_at (both_signed shape) at) ∷ one Y y ∷ []) n)
          (λ p at. (point p wires (a_at (both_signed shape) at) ∷ []) ∷ (point p wires (b_at (both_signed shape) at) ∷ []) ∷ [] ∷ []) b word
          (λ at n y. gate_named (gate_for kind) (one A (a_at (both_signed shape) at) ∷ one B (b_at (both_signed shape) at) ∷ one Y y ∷ []) n)
          (λ p at n y. refl)
          (λ p t w at z h.
          let inputs : List (List Point) = (point p wires (a_at (both_signed shape) at) ∷ []) ∷ (point p wires (b_at (both_signed shape) at) ∷ []) ∷ [] ∷ [] in
          let a : Bit = read w (point p wires (a_at (both_signed shape) at)) in
          let b : Bit = read w (point p wires (b_at (both_signed shape) at)) in
          let x : Bit = extended_at (both_signed shape) (read_all w (points p wires (pin_signal c A))) at in
          let y : Bit = extended_at (both_signed shape) (read_all w (points p wires (pin_signal c B))) at in
          let ab : bit_by kind a b ≡ bit_by kind x y =
          ap (λ v. bit_by kind v b) (sym (operand_read p wires w (both_signed shape) (pin_signal c A) at)) ∙ ap (λ v. bit_by kind x v) (sym (operand_read p wires w (both_signed shape) (pin_signal c B) at))
          in
          let value : value_of (Worked (cell_shape (Gate (gate_for kind)) []) inputs 0) t w ≡ bit_by kind x y =
          gate_value (gate_for kind) inputs t w ∙ sym (same_gate kind a b X) ∙ ab
          in
          let below = word_below (λ at. bit_by kind (extended_at (both_signed shape) (read_all w (points p wires (pin_signal c A))) at) (extended_at (both_signed shape) (read_all w (points p wires (pin_signal c B))) at)) shape.widths.y at z (λ lt. subst (λ v. Below v z) value h) in
          let same : value_of (Worked shape (words_of p wires c) at) t w ≡ value_of (Worked (cell_shape (Word (Bitwise kind)) c.params) (words_of p wires c) at) t w = ap (λ s. value_of (Worked s (words_of p wires c) at) t w) e in
          subst (λ v. Below v z) (sym (word_value (Bitwise kind) shape (words_of p wires c) at t w (ap (λ s. s.kind) e ∙ shape_kind (Word (Bitwise kind)) c.params)) ∙ same) below)

  pub mux_stands : cell_kind c ≡ Some (Word Mux) → Stands Mux
  mux_stands word = by (cell_shape (Word Mux) c.params) refl
    where
      by : (shape : Shape) → shape ≡ cell_shape (Word Mux) c.params → StandsFor ports start wires c (cells_added b (gates_of (Word Mux) shape c b))
      by shape e =
          gates_stand ports start wires c Mux GateOf.Mux
          (λ at n y. cell_named (gate_name GateOf.Mux) [] (one A (a_at false at) ∷ one B (b_at false at) ∷ one S s_at ∷ one Y y ∷ []) n)
          (λ p at. (point p wires (a_at false at) ∷ []) ∷ (point p wires (b_at false at) ∷ []) ∷ (point p wires s_at ∷ []) ∷ []) b word
          (λ at n y. gate_named GateOf.Mux (one A (a_at false at) ∷ one B (b_at false at) ∷ one S s_at ∷ one Y y ∷ []) n)
          (λ p at n y. refl)
          (λ p t w at z h.
          let inputs : List (List Point) = (point p wires (a_at false at) ∷ []) ∷ (point p wires (b_at false at) ∷ []) ∷ (point p wires s_at ∷ []) ∷ [] in
          let below : Below (mux_of (slice_index_or (read_all w (points p wires (pin_signal c A))) at X) (slice_index_or (read_all w (points p wires (pin_signal c B))) at X) (slice_index_or (read_all w (points p wires (pin_signal c S))) 0 X)) z =
          Below_trans _ (mux_of (read w (point p wires (a_at false at))) (read w (point p wires (b_at false at))) (read w (point p wires s_at))) z
          (mux_of_mono _ _ _ _ _ _ (operand_below p wires w (pin_signal c A) at) (operand_below p wires w (pin_signal c B) at) (operand_below p wires w (pin_signal c S) 0))
          (subst (λ v. Below v z) (gate_value GateOf.Mux inputs t w) h)
          in
          let word' = word_below (λ at. mux_of (slice_index_or (read_all w (points p wires (pin_signal c A))) at X) (slice_index_or (read_all w (points p wires (pin_signal c B))) at X) (slice_index_or (read_all w (points p wires (pin_signal c S))) 0 X)) shape.widths.y at z (λ lt. below) in
          let same : value_of (Worked shape (words_of p wires c) at) t w ≡ value_of (Worked (cell_shape (Word Mux) c.params) (words_of p wires c) at) t w = ap (λ s. value_of (Worked s (words_of p wires c) at) t w) e in
          subst (λ v. Below v z) (sym (word_value Mux shape (words_of p wires c) at t w (ap (λ s. s.kind) e ∙ shape_kind (Word Mux) c.params)) ∙ same) word')

  pub bwmux_stands : cell_kind c ≡ Some (Word Bwmux) → Stands Bwmux
  bwmux_stands word = by (cell_shape (Word Bwmux) c.params) refl
    where
      by : (shape : Shape) → shape ≡ cell_shape (Word Bwmux) c.params → StandsFor ports start wires c (cells_added b (gates_of (Word Bwmux) shape c b))
      by shape e =
          gates_stand ports start wires c Bwmux GateOf.Mux
          (λ at n y. cell_named (gate_name GateOf.Mux) [] (one A (a_at false at) ∷ one B (b_at false at) ∷ one S (s_at_each at) ∷ one Y y ∷ []) n)
          (λ p at. (point p wires (a_at false at) ∷ []) ∷ (point p wires (b_at false at) ∷ []) ∷ (point p wires (s_at_each at) ∷ []) ∷ []) b word
          (λ at n y. gate_named GateOf.Mux (one A (a_at false at) ∷ one B (b_at false at) ∷ one S (s_at_each at) ∷ one Y y ∷ []) n)
          (λ p at n y. refl)
          (λ p t w at z h.
          let inputs : List (List Point) = (point p wires (a_at false at) ∷ []) ∷ (point p wires (b_at false at) ∷ []) ∷ (point p wires (s_at_each at) ∷ []) ∷ [] in
          let below : Below (mux_of (slice_index_or (read_all w (points p wires (pin_signal c A))) at X) (slice_index_or (read_all w (points p wires (pin_signal c B))) at X) (slice_index_or (read_all w (points p wires (pin_signal c S))) at X)) z =
          Below_trans _ (mux_of (read w (point p wires (a_at false at))) (read w (point p wires (b_at false at))) (read w (point p wires (s_at_each at)))) z
          (mux_of_mono _ _ _ _ _ _ (operand_below p wires w (pin_signal c A) at) (operand_below p wires w (pin_signal c B) at) (operand_below p wires w (pin_signal c S) at))
          (subst (λ v. Below v z) (gate_value GateOf.Mux inputs t w) h)
          in
          let word' = word_below (λ at. mux_of (slice_index_or (read_all w (points p wires (pin_signal c A))) at X) (slice_index_or (read_all w (points p wires (pin_signal c B))) at X) (slice_index_or (read_all w (points p wires (pin_signal c S))) at X)) shape.widths.y at z (λ lt. below) in
          let same : value_of (Worked shape (words_of p wires c) at) t w ≡ value_of (Worked (cell_shape (Word Bwmux) c.params) (words_of p wires c) at) t w = ap (λ s. value_of (Worked s (words_of p wires c) at) t w) e in
          subst (λ v. Below v z) (sym (word_value Bwmux shape (words_of p wires c) at t w (ap (λ s. s.kind) e ∙ shape_kind (Word Bwmux) c.params)) ∙ same) word')
