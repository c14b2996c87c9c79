-- The gates of a cell are an expansion of it, and stand for it.
use Rattle.std.proofs.Common.{◌≡◌, true, List, Some, length, sym, ◌∙◌, ap, subst, arith}
use Rattle.std.specs.Prelude.{if◌then◌else◌, map, slice_index_or}
use Rattle.cell_types.specs.PinName.{pin_text}
use Rattle.cell_types.specs.declared.kind.CellKind.{CellKind}
use Rattle.cell_types.specs.declared.kind.CellKind.TheVariants.{Word}
use Rattle.cell_types.specs.declared.pin_name.PinName.TheVariants.{A, B, S, Y}
use Rattle.cell_types.specs.declared.shape.Shape.{Shape}
use Rattle.cell_types.specs.declared.word.WordKind.{WordKind}
use Rattle.cell_word.specs.Values as word_values
use Rattle.rtl_bits.proofs.Orders.{Below_refl}
use Rattle.rtl_bits.specs.Knowledge.{Below}
use Rattle.rtl_bits.specs.declared.bit.Bit.{Bit}
use Rattle.rtl_bits.specs.declared.bit.Bit.TheVariants.{S0, X}
use Rattle.rtl_ir.specs.Build.{Building}
use Rattle.rtl_ir.specs.Flat.Cell.{Ports, cell_kind, cell_shape}
use Rattle.rtl_ir.specs.declared.cell.Cell.{Cell}
use Rattle.rtl_ir.specs.declared.wire.Wire.{Wire}
use Rattle.rtl_sig.specs.declared.sig.SigBit.{SigBit}
use Rattle.rtl_sig.specs.declared.sig.SigBit.TheVariants.{Fixed}
use Rattle.net_model.proofs.Ranges.{signal_in}
use Rattle.map_laws.proofs.Wholes.{cell_more}
use Rattle.map_laws.specs.Expansion.{IsExpansion, IsWhole, StandsWith, cells_added, links_added}
use Rattle.map_laws.proofs.Shaping.{shape_is}
use Rattle.map_laws.specs.Operand.{IsShapeOf, pin_signal}
use Rattle.gate_nets.specs.Give.{given}
use Rattle.gate_nets.specs.Operand.{greater_width}
use Rattle.gate_nets.proofs.Operands.{goods_in, length_map}
use Rattle.gate_nets.proofs.Expanding.{net_expands, net_stands}
use Rattle.gate_nets.proofs.Nets.{net_weaker}
use Rattle.gate_nets.proofs.Standing.{reads}
use Rattle.gate_nets.proofs.Wholes.{names}
use Rattle.map_add.specs.Expand.{is_mapped, map_of, value_of}
use Rattle.map_add.proofs.Nets.{net_value}
use Rattle.map_add.proofs.Values.{value_below}

module _ (c : Cell) (kind : WordKind) (b : Building) where
  word_expands : (shape : Shape) → IsWhole (length b.body.wires) (Word kind) c → IsExpansion b (given (pin_signal c Y) (value_of (Word kind) shape c) b) c
  word_expands shape whole =
      net_expands c kind (value_of (Word kind) shape c) b whole
      (λ count more.
      let within = cell_more (length b.body.wires) count c more whole.within in
      net_weaker (names count) (net_value (names count) (λ s. X) shape c (Word kind) (λ s i. signal_in count c.pins (pin_text A) within s i) (λ s i. signal_in count c.pins (pin_text B) within s i))
      (λ bits w. goods_in count _ bits w.0))

  word_stands : (shape : Shape) → shape ≡ cell_shape (Word kind) c.params → cell_kind c ≡ Some (Word kind) → is_mapped (Word kind) ≡ true → (ports : Ports) (start : SigBit → Bit) (wires : List Wire)
      → StandsWith ports start wires c (cells_added b (given (pin_signal c Y) (value_of (Word kind) shape c) b)) (links_added b (given (pin_signal c Y) (value_of (Word kind) shape c) b))
  word_stands shape same word m =
      net_stands c kind (value_of (Word kind) shape c) b word
      (λ f is.
      net_weaker (reads f is) (net_value (reads f is) f shape c (Word kind) (λ s i. Below_refl (f s)) (λ s i. Below_refl (f s)))
      (λ bits w at lt.
      subst (λ z. Below (slice_index_or (word_values.value_of kind z (map f (pin_signal c A)) (map f (pin_signal c B)) (map f (pin_signal c S))) at X) (f (slice_index_or bits at (Fixed S0)))) same
      (value_below f is kind shape (greater_width c) (map f (pin_signal c A)) (map f (pin_signal c B)) (map f (pin_signal c S)) bits m
      (omega (arith, length_map f (pin_signal c A))) (omega (arith, length_map f (pin_signal c B))) w.0 w.1 at)))

module _ (c : Cell) (b : Building) where
  kind_expands : (kind : CellKind) (shape : Shape) → is_mapped kind ≡ true → IsWhole (length b.body.wires) kind c → IsExpansion b (given (pin_signal c Y) (value_of kind shape c) b) c
  kind_expands (Word kind) shape m whole = word_expands c kind b shape whole
  kind_expands kind shape m whole = absurd (cc)

  kind_stands : (kind : CellKind) (shape : Shape) → shape ≡ cell_shape kind c.params → cell_kind c ≡ Some kind → is_mapped kind ≡ true → (ports : Ports) (start : SigBit → Bit) (wires : List Wire)
      → StandsWith ports start wires c (cells_added b (given (pin_signal c Y) (value_of kind shape c) b)) (links_added b (given (pin_signal c Y) (value_of kind shape c) b))
  kind_stands (Word kind) shape same word m = word_stands c kind b shape same word m
  kind_stands kind shape same word m = absurd (cc)

-- the same of what is answered
module _ (c : Cell) (b new : Building) (shape : Shape) (e : new ≡ map_of shape c b) where
  is_given : is_mapped shape.kind ≡ true → new ≡ given (pin_signal c Y) (value_of shape.kind shape c) b
  is_given m = e ∙ ap (λ t. if t then given (pin_signal c Y) (value_of shape.kind shape c) b else b) m

  pub expanded : IsShapeOf c shape → is_mapped shape.kind ≡ true → IsWhole (length b.body.wires) shape.kind c → IsExpansion b new c
  expanded is m whole = subst (λ n. IsExpansion b n c) (sym (is_given m)) (kind_expands c b shape.kind shape m whole)

  pub expanded_stands : IsShapeOf c shape → is_mapped shape.kind ≡ true → (ports : Ports) (start : SigBit → Bit) (wires : List Wire) → StandsWith ports start wires c (cells_added b new) (links_added b new)
  expanded_stands is m ports start wires =
      subst (λ n. StandsWith ports start wires c (cells_added b n) (links_added b n)) (sym (is_given m))
      (kind_stands c b shape.kind shape (shape_is c shape is) is.kind m ports start wires)
