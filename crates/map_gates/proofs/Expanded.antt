-- The gates of a cell stand for it, whatever its kind.
use Rattle.std.proofs.Common.{◌≡◌, ℕ, false, List, [], ◌∷◌, length, true, Some, None, refl, sym, subst}
use Rattle.std.proofs.lemmas.List.{append-nil}
use Rattle.cell_types.specs.PinName.{pin_text}
use Rattle.cell_types.specs.declared.gate.GateKind.TheVariants as GateOf
use Rattle.cell_types.specs.declared.kind.CellKind.{CellKind}
use Rattle.cell_types.specs.declared.kind.CellKind.TheVariants.{Word}
use Rattle.cell_types.specs.declared.pin_name.PinName.TheVariants.{A, B, S, Y}
use Rattle.cell_types.specs.declared.shape.Shape.{Shape}
use Rattle.cell_types.specs.declared.word.BitwiseKind.{BitwiseKind}
use Rattle.cell_types.specs.declared.word.UnaryKind.TheVariants.{Not, Pos}
use Rattle.cell_types.specs.declared.word.WordKind.TheVariants.{Unary, Fold, Bitwise, Logic, Equal, Mux, Pmux, Slice, Concat, Buf, Bwmux, Bmux, Demux}
use Rattle.cell_word.specs.Values.{both_signed}
use Rattle.rtl_bits.specs.declared.bit.Bit.{Bit}
use Rattle.rtl_ir.specs.Build.{Building}
use Rattle.rtl_ir.specs.Faults.Cells.{misfit}
use Rattle.rtl_ir.specs.Flat.Cell.{Ports, cell_kind, cell_shape, cells_rows}
use Rattle.rtl_ir.specs.declared.cell.Cell.{Cell}
use Rattle.rtl_ir.specs.declared.wire.Wire.{Wire}
use Rattle.rtl_sig.specs.declared.sig.SigBit.{SigBit}
use Rattle.net_index.specs.BuilderNames.{gate_name}
use Rattle.net_model.proofs.Ranges.{signal_in}
use Rattle.net_model.specs.Refine.{Solved, SolvedBefore}
use Rattle.net_model.specs.Swap.{StandsFor}
use Rattle.map_laws.proofs.Expanding.{links_are}
use Rattle.map_laws.specs.Expansion.{IsExpansion, IsWhole, StandsWith, cells_added, links_added}
use Rattle.gate_nets.specs.Gate.{gate_for}
use Rattle.map_laws.proofs.Shaping.{fits_shape, shape_is}
use Rattle.map_laws.specs.Operand.{IsShapeOf}
use Rattle.map_gates.specs.Expand.{gates_of, is_mapped, map_of}
use Rattle.map_gates.proofs.Valued.{value_expands, value_stands}
use Rattle.map_laws.specs.Operand.{pin_signal}
use Rattle.gate_nets.specs.Gate.{one}
use Rattle.map_gates.specs.Gates.{bit_at}
use Rattle.map_gates.proofs.Adding.{cell_named}
use Rattle.map_gates.proofs.Bits.{bitwise_stands, bwmux_stands, inverse_stands, mux_stands}
use Rattle.map_gates.proofs.Demuxing.{demux_expands, demux_stands}
use Rattle.map_gates.proofs.Expanding.{each_adds, gates_expand}
use Rattle.map_gates.proofs.Gating.{binary_for, mux_for, not_for, operand_in}

-- cells that stand for a cell do so without connections
with_none : (ports : Ports) (start : SigBit → Bit) (wires : List Wire) (c : Cell) (cells : List Cell) → StandsFor ports start wires c cells → StandsWith ports start wires c cells []
with_none ports start wires c cells h = record {
  children = h.children;
  rows = λ p t w s before. h.rows p t w (subst (λ z. Solved z t w) (append-nil (cells_rows start ports p wires cells)) s) (subst (λ z. SolvedBefore z t) (append-nil (cells_rows start ports p wires cells)) before);
}

-- the gates of a kind of cell are an expansion of it
module _ (c : Cell) (b : Building) where
  abbrev count : ℕ
  count = length b.body.wires

  kind_expands : (kind : CellKind) (shape : Shape) → is_mapped kind ≡ true → IsWhole count kind c → IsExpansion b (gates_of kind shape c b) c
  kind_expands (Word (Unary Not)) shape m whole =
      gates_expand (λ at n y. cell_named (gate_name GateOf.Not) [] (one A (bit_at shape.signs.a (pin_signal c A) at) ∷ one Y y ∷ []) n) (Unary Not) c b whole
      (λ at n y h e. not_for count n y h e (bit_at shape.signs.a (pin_signal c A) at) (operand_in count shape.signs.a (pin_signal c A) at (signal_in count c.pins (pin_text A) whole.within)))
  kind_expands (Word (Bitwise kind)) shape m whole =
      gates_expand (λ at n y. cell_named (gate_name (gate_for kind)) [] (one A (bit_at (both_signed shape) (pin_signal c A) at) ∷ one B (bit_at (both_signed shape) (pin_signal c B) at) ∷ one Y y ∷ []) n) (Bitwise kind) c b whole
      (λ at n y h e. binary_for count n y h e kind (bit_at (both_signed shape) (pin_signal c A) at) (bit_at (both_signed shape) (pin_signal c B) at)
      (operand_in count (both_signed shape) (pin_signal c A) at (signal_in count c.pins (pin_text A) whole.within))
      (operand_in count (both_signed shape) (pin_signal c B) at (signal_in count c.pins (pin_text B) whole.within)))
  kind_expands (Word Mux) shape m whole =
      gates_expand (λ at n y. cell_named (gate_name GateOf.Mux) [] (one A (bit_at false (pin_signal c A) at) ∷ one B (bit_at false (pin_signal c B) at) ∷ one S (bit_at false (pin_signal c S) 0) ∷ one Y y ∷ []) n) Mux c b whole
      (λ at n y h e. mux_for count n y h e (bit_at false (pin_signal c A) at) (bit_at false (pin_signal c B) at) (bit_at false (pin_signal c S) 0)
      (operand_in count false (pin_signal c A) at (signal_in count c.pins (pin_text A) whole.within))
      (operand_in count false (pin_signal c B) at (signal_in count c.pins (pin_text B) whole.within))
      (operand_in count false (pin_signal c S) 0 (signal_in count c.pins (pin_text S) whole.within)))
  kind_expands (Word Bwmux) shape m whole =
      gates_expand (λ at n y. cell_named (gate_name GateOf.Mux) [] (one A (bit_at false (pin_signal c A) at) ∷ one B (bit_at false (pin_signal c B) at) ∷ one S (bit_at false (pin_signal c S) at) ∷ one Y y ∷ []) n) Bwmux c b whole
      (λ at n y h e. mux_for count n y h e (bit_at false (pin_signal c A) at) (bit_at false (pin_signal c B) at) (bit_at false (pin_signal c S) at)
      (operand_in count false (pin_signal c A) at (signal_in count c.pins (pin_text A) whole.within))
      (operand_in count false (pin_signal c B) at (signal_in count c.pins (pin_text B) whole.within))
      (operand_in count false (pin_signal c S) at (signal_in count c.pins (pin_text S) whole.within)))
  kind_expands (Word (Unary Pos)) shape m whole = value_expands c (Unary Pos) b shape whole
  kind_expands (Word (Fold kind)) shape m whole = value_expands c (Fold kind) b shape whole
  kind_expands (Word (Logic kind)) shape m whole = value_expands c (Logic kind) b shape whole
  kind_expands (Word (Equal kind)) shape m whole = value_expands c (Equal kind) b shape whole
  kind_expands (Word Pmux) shape m whole = value_expands c Pmux b shape whole
  kind_expands (Word Slice) shape m whole = value_expands c Slice b shape whole
  kind_expands (Word Concat) shape m whole = value_expands c Concat b shape whole
  kind_expands (Word Demux) shape m whole = demux_expands c b whole
  kind_expands (Word Buf) shape m whole = value_expands c Buf b shape whole
  kind_expands (Word Bmux) shape m whole = value_expands c Bmux b shape whole
  kind_expands kind shape m whole = absurd (cc)

  -- where each bit of Y has a gate, no connections are added
  not_links : (shape : Shape) → links_added b (gates_of (Word (Unary Not)) shape c b) ≡ []
  not_links shape =
      links_are b _ _ [] [] (each_adds (λ at n y. cell_named (gate_name GateOf.Not) [] (one A (bit_at shape.signs.a (pin_signal c A) at) ∷ one Y y ∷ []) n) 0 (pin_signal c Y) b)

  bitwise_links : (kind : BitwiseKind) (shape : Shape) → links_added b (gates_of (Word (Bitwise kind)) shape c b) ≡ []
  bitwise_links kind shape =
      links_are b _ _ [] [] (each_adds (λ at n y. cell_named (gate_name (gate_for kind)) [] (one A (bit_at (both_signed shape) (pin_signal c A) at) ∷ one B (bit_at (both_signed shape) (pin_signal c B) at) ∷ one Y y ∷ []) n) 0 (pin_signal c Y) b)

  mux_links : (shape : Shape) → links_added b (gates_of (Word Mux) shape c b) ≡ []
  mux_links shape =
      links_are b _ _ [] [] (each_adds (λ at n y. cell_named (gate_name GateOf.Mux) [] (one A (bit_at false (pin_signal c A) at) ∷ one B (bit_at false (pin_signal c B) at) ∷ one S (bit_at false (pin_signal c S) 0) ∷ one Y y ∷ []) n) 0 (pin_signal c Y) b)

  bwmux_links : (shape : Shape) → links_added b (gates_of (Word Bwmux) shape c b) ≡ []
  bwmux_links shape =
      links_are b _ _ [] [] (each_adds (λ at n y. cell_named (gate_name GateOf.Mux) [] (one A (bit_at false (pin_signal c A) at) ∷ one B (bit_at false (pin_signal c B) at) ∷ one S (bit_at false (pin_signal c S) at) ∷ one Y y ∷ []) n) 0 (pin_signal c Y) b)

  -- and the gates of a kind stand for the cell
  module _ (ports : Ports) (start : SigBit → Bit) (wires : List Wire) where
    abbrev Stands : CellKind → Shape → Type 0
    Stands kind shape =
        StandsWith ports start wires c (cells_added b (gates_of kind shape c b)) (links_added b (gates_of kind shape c b))

    without : (kind : CellKind) (shape : Shape) → shape ≡ cell_shape kind c.params → links_added b (gates_of kind shape c b) ≡ [] → StandsFor ports start wires c (cells_added b (gates_of kind (cell_shape kind c.params) c b)) → Stands kind shape
    without kind shape same none h =
        subst (StandsWith ports start wires c (cells_added b (gates_of kind shape c b))) (sym none)
        (with_none ports start wires c (cells_added b (gates_of kind shape c b)) (subst (λ z. StandsFor ports start wires c (cells_added b (gates_of kind z c b))) (sym same) h))

    kind_stands : (kind : CellKind) (shape : Shape) → shape ≡ cell_shape kind c.params → misfit kind c ≡ None → cell_kind c ≡ Some kind → is_mapped kind ≡ true → Stands kind shape
    kind_stands (Word (Unary Not)) shape same fit own m =
        without (Word (Unary Not)) shape same (not_links shape) (inverse_stands ports start wires c b own)
    kind_stands (Word (Bitwise kind)) shape same fit own m =
        without (Word (Bitwise kind)) shape same (bitwise_links kind shape) (bitwise_stands ports start wires c b kind own)
    kind_stands (Word Mux) shape same fit own m =
        without (Word Mux) shape same (mux_links shape) (mux_stands ports start wires c b own)
    kind_stands (Word Bwmux) shape same fit own m =
        without (Word Bwmux) shape same (bwmux_links shape) (bwmux_stands ports start wires c b own)
    kind_stands (Word (Unary Pos)) shape same fit own m = value_stands c (Unary Pos) b shape same fit own refl ports start wires
    kind_stands (Word (Fold kind)) shape same fit own m = value_stands c (Fold kind) b shape same fit own refl ports start wires
    kind_stands (Word (Logic kind)) shape same fit own m = value_stands c (Logic kind) b shape same fit own refl ports start wires
    kind_stands (Word (Equal kind)) shape same fit own m = value_stands c (Equal kind) b shape same fit own refl ports start wires
    kind_stands (Word Pmux) shape same fit own m = value_stands c Pmux b shape same fit own refl ports start wires
    kind_stands (Word Slice) shape same fit own m = value_stands c Slice b shape same fit own refl ports start wires
    kind_stands (Word Concat) shape same fit own m = value_stands c Concat b shape same fit own refl ports start wires
    kind_stands (Word Demux) shape same fit own m = demux_stands c b fit own ports start wires
    kind_stands (Word Buf) shape same fit own m = value_stands c Buf b shape same fit own refl ports start wires
    kind_stands (Word Bmux) shape same fit own m = value_stands c Bmux b shape same fit own refl ports start wires
    kind_stands kind shape same fit own m = absurd (cc)

-- the same of what is answered
module _ (c : Cell) (b new : Building) (shape : Shape) (e : new ≡ map_of shape c b) where
  pub expanded : IsShapeOf c shape → is_mapped shape.kind ≡ true → IsWhole (length b.body.wires) shape.kind c → IsExpansion b new c
  expanded is m whole = subst (λ n. IsExpansion b n c) (sym e) (kind_expands c b shape.kind shape m whole)

  pub expanded_stands : IsShapeOf c shape → is_mapped shape.kind ≡ true → (ports : Ports) (start : SigBit → Bit) (wires : List Wire) → StandsWith ports start wires c (cells_added b new) (links_added b new)
  expanded_stands is m ports start wires =
      subst (λ n. StandsWith ports start wires c (cells_added b n) (links_added b n)) (sym e)
      (kind_stands c b ports start wires shape.kind shape (shape_is c shape is) (fits_shape c shape is) is.kind m)
