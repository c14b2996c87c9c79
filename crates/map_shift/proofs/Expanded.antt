-- The gates of a cell are an expansion of it, and stand for it.
use Rattle.std.proofs.Common.{◌≡◌, max, true, List, Some, length, sym, ◌∙◌, ap, subst}
use Rattle.std.specs.Prelude.{if◌then◌else◌, map, slice_index_or}
use Rattle.cell_types.specs.PinName.{pin_text}
use Rattle.cell_types.specs.declared.kind.CellKind.{CellKind}
use Rattle.cell_types.specs.declared.kind.CellKind.TheVariants.{Word}
use Rattle.cell_types.specs.declared.pin_name.PinName.TheVariants.{A, B, S, Y}
use Rattle.cell_types.specs.declared.shape.Shape.{Shape}
use Rattle.cell_types.specs.declared.word.ShiftKind.{ShiftKind}
use Rattle.cell_types.specs.declared.word.WordKind.TheVariants.{Shift}
use Rattle.cell_word.specs.Values as word_values
use Rattle.cell_word.specs.Words.{extended_at}
use Rattle.rtl_bits.proofs.Orders.{Below_refl}
use Rattle.rtl_bits.specs.Knowledge.{Below}
use Rattle.rtl_bits.specs.declared.bit.Bit.{Bit}
use Rattle.rtl_bits.specs.declared.bit.Bit.TheVariants.{S0, X}
use Rattle.rtl_ir.specs.Build.{Building}
use Rattle.rtl_ir.specs.Flat.Cell.{Ports, cell_kind, cell_shape}
use Rattle.rtl_ir.specs.declared.cell.Cell.{Cell}
use Rattle.rtl_ir.specs.declared.wire.Wire.{Wire}
use Rattle.rtl_sig.specs.declared.sig.SigBit.{SigBit}
use Rattle.rtl_sig.specs.declared.sig.SigBit.TheVariants.{Fixed}
use Rattle.net_model.proofs.Ranges.{signal_in}
use Rattle.map_laws.proofs.Shaping.{shape_is}
use Rattle.map_laws.proofs.Wholes.{cell_more}
use Rattle.map_laws.specs.Expansion.{IsExpansion, IsWhole, StandsWith, cells_added, links_added}
use Rattle.map_laws.specs.Operand.{IsShapeOf, pin_signal}
use Rattle.gate_nets.specs.Give.{given}
use Rattle.gate_nets.proofs.Expanding.{net_expands, net_stands}
use Rattle.gate_nets.proofs.Nets.{Goods, net_weaker}
use Rattle.gate_nets.proofs.Operands.{goods_in, length_map}
use Rattle.gate_nets.proofs.Standing.{reads}
use Rattle.gate_nets.proofs.Wholes.{names}
use Rattle.map_shift.specs.Expand.{is_mapped, map_of, moved_width, shift_by, value_of}
use Rattle.map_shift.proofs.Distances.{bits_at}
use Rattle.map_shift.proofs.Nets.{net_shift}
use Rattle.map_shift.proofs.Readings.{fill_bit, moved_bits}
use Rattle.map_shift.proofs.Values.{value_below}

module _ (c : Cell) (kind : ShiftKind) (b : Building) (shape : Shape) where
  shift_expands : IsWhole (length b.body.wires) (Word (Shift kind)) c → IsExpansion b (given (pin_signal c Y) (shift_by kind shape c) b) c
  shift_expands whole =
      net_expands c (Shift kind) (shift_by kind shape c) b whole
      (λ count more.
      let within = cell_more (length b.body.wires) count c more whole.within in
      net_weaker (names count) (net_shift (names count) (λ s. X) kind shape c (λ s i. signal_in count c.pins (pin_text A) within s i) (λ s i. signal_in count c.pins (pin_text B) within s i))
      (λ bits w. goods_in count _ bits w.0))

  shift_stands : shape ≡ cell_shape (Word (Shift kind)) c.params → cell_kind c ≡ Some (Word (Shift kind)) → (ports : Ports) (start : SigBit → Bit) (wires : List Wire)
      → StandsWith ports start wires c (cells_added b (given (pin_signal c Y) (shift_by kind shape c) b)) (links_added b (given (pin_signal c Y) (shift_by kind shape c) b))
  shift_stands same word =
      net_stands c (Shift kind) (shift_by kind shape c) b word
      (λ f is.
      net_weaker (reads f is) (net_shift (reads f is) f kind shape c (λ s i. Below_refl (f s)) (λ s i. Below_refl (f s)))
      (λ bits w at lt.
      subst (λ z. Below (slice_index_or (word_values.value_of (Shift kind) z (map f (pin_signal c A)) (map f (pin_signal c B)) (map f (pin_signal c S))) at X) (f (slice_index_or bits at (Fixed S0)))) same
      (value_below f is kind shape.signs.a shape.signs.b (map f (pin_signal c A)) (map f (pin_signal c B)) shape.widths.y (moved_width shape c) bits
      (ap (λ n. max n shape.widths.y) (sym (length_map f (pin_signal c A))))
      (subst (λ n. Goods (reads f is) (moved_bits kind shape.signs.b (fill_bit kind shape.signs.a (map f (pin_signal c A))) (moved_width shape c) (extended_at shape.signs.a (map f (pin_signal c A))) (bits_at (map f (pin_signal c B))) n) bits) (sym (length_map f (pin_signal c B))) w.0)
      w.1 at)))

module _ (c : Cell) (b : Building) where
  kind_expands : (kind : CellKind) (shape : Shape) → is_mapped kind ≡ true → IsWhole (length b.body.wires) kind c → IsExpansion b (given (pin_signal c Y) (value_of kind shape c) b) c
  kind_expands (Word (Shift kind)) shape m whole = shift_expands c kind b shape whole
  kind_expands kind shape m whole = absurd (cc)

  kind_stands : (kind : CellKind) (shape : Shape) → shape ≡ cell_shape kind c.params → cell_kind c ≡ Some kind → is_mapped kind ≡ true → (ports : Ports) (start : SigBit → Bit) (wires : List Wire)
      → StandsWith ports start wires c (cells_added b (given (pin_signal c Y) (value_of kind shape c) b)) (links_added b (given (pin_signal c Y) (value_of kind shape c) b))
  kind_stands (Word (Shift kind)) shape same word m = shift_stands c kind b shape same word
  kind_stands kind shape same word m = absurd (cc)

-- the same of what is answered
module _ (c : Cell) (b new : Building) (shape : Shape) (e : new ≡ map_of shape c b) where
  is_given : is_mapped shape.kind ≡ true → new ≡ given (pin_signal c Y) (value_of shape.kind shape c) b
  is_given m = e ∙ ap (λ t. if t then given (pin_signal c Y) (value_of shape.kind shape c) b else b) m

  pub expanded : IsShapeOf c shape → is_mapped shape.kind ≡ true → IsWhole (length b.body.wires) shape.kind c → IsExpansion b new c
  expanded is m whole = subst (λ n. IsExpansion b n c) (sym (is_given m)) (kind_expands c b shape.kind shape m whole)

  pub expanded_stands : IsShapeOf c shape → is_mapped shape.kind ≡ true → (ports : Ports) (start : SigBit → Bit) (wires : List Wire) → StandsWith ports start wires c (cells_added b new) (links_added b new)
  expanded_stands is m ports start wires =
      subst (λ n. StandsWith ports start wires c (cells_added b n) (links_added b n)) (sym (is_given m))
      (kind_stands c b shape.kind shape (shape_is c shape is) is.kind m ports start wires)
