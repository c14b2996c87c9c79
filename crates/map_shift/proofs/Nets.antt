-- What the net of a cell has, whatever is said of bits.
use Rattle.std.proofs.Common.{◌≡◌, ℕ, Bool, true, false, List, length, sym, ◌∙◌, ap, subst, ◌-◌}
use Rattle.std.specs.Prelude.{map}
use Rattle.cell_types.specs.declared.pin_name.PinName.TheVariants.{A, B}
use Rattle.cell_types.specs.declared.shape.Shape.{Shape}
use Rattle.cell_types.specs.declared.word.ShiftKind.{ShiftKind}
use Rattle.cell_types.specs.declared.word.ShiftKind.TheVariants.{Shl, Sshl, Shr, Sshr, Shift, Shiftx}
use Rattle.cell_word.specs.Words as words
use Rattle.cell_word.specs.Words.{extended_at}
use Rattle.rtl_bits.specs.declared.bit.Bit.{Bit}
use Rattle.rtl_bits.specs.declared.bit.Bit.TheVariants.{S0, X}
use Rattle.rtl_ir.specs.declared.cell.Cell.{Cell}
use Rattle.rtl_sig.specs.Signal.{fill_of}
use Rattle.rtl_sig.specs.declared.sig.SigBit.{SigBit}
use Rattle.net_model.specs.Lists.{In}
use Rattle.map_laws.specs.Operand.{pin_signal}
use Rattle.gate_nets.specs.Operand.{operand_of}
use Rattle.gate_nets.proofs.Nets.{Goods, Logic, Net}
use Rattle.gate_nets.proofs.Operands.{goods_extended, goods_own, length_map}
use Rattle.gate_nets.proofs.Standing.{length-extended}
use Rattle.map_shift.specs.Expand.{fill_by, moved_by, moved_width, shift_by}
use Rattle.map_shift.specs.declared.moves.Way.TheVariants.{Left, Right}
use Rattle.map_shift.proofs.Distances.{bits_at, top_at}
use Rattle.map_shift.proofs.Readings.{fill_bit, moved_bits, none_at}
use Rattle.map_shift.proofs.Words.{net_either, net_shifted, top_has}

module _ (l : Logic) where
  -- what the top bit of an operand has
  top_bit_has : (g : SigBit → Bit) (bits : List SigBit) → ((x : SigBit) → In x bits → l.Has (g x) x) → l.Has (words.fill_of true (map g bits)) (fill_of bits true)
  top_bit_has g bits k =
      let e : bits_at (map g bits) (length bits - 1) ≡ words.fill_of true (map g bits) = ap (λ z. bits_at (map g bits) (z - 1)) (sym (length_map g bits)) ∙ sym (top_at (map g bits)) in
      subst (λ z. l.Has z (fill_of bits true)) e
      (top_has l (bits_at (map g bits)) bits (goods_own l g S0 bits k) (λ none. none_at (map g bits) (length_map g bits ∙ none)))

  fill_has : (g : SigBit → Bit) (kind : ShiftKind) (signed : Bool) (a : List SigBit) → ((x : SigBit) → In x a → l.Has (g x) x) → l.Has (fill_bit kind signed (map g a)) (fill_by kind signed a)
  fill_has g Shl signed a k = l.constant S0
  fill_has g Sshl signed a k = l.constant S0
  fill_has g Shr signed a k = l.constant S0
  fill_has g Sshr true a k = top_bit_has g a k
  fill_has g Sshr false a k = l.constant S0
  fill_has g Shift signed a k = l.constant S0
  fill_has g Shiftx signed a k = l.constant X

  net_moved : (kind : ShiftKind) (signed : Bool) (d : Bit) (fill : SigBit) (width : ℕ) (v w : ℕ → Bit) (bits distance : List SigBit) {R : Type 0} → (R → l.Has d fill) → (R → Goods l v bits) → (R → length bits ≡ width) → (R → Goods l w distance)
      → (length distance ≡ 0 → w 0 ≡ S0)
      → Net l R (moved_by kind signed fill bits distance) (λ ys. Goods l (moved_bits kind signed d width v w (length distance)) ys × (length ys ≡ width))
  net_moved Shl signed d fill width v w bits distance f h e k none = net_shifted l Left d fill 0 width v w bits distance f h e k
  net_moved Sshl signed d fill width v w bits distance f h e k none = net_shifted l Left d fill 0 width v w bits distance f h e k
  net_moved Shr signed d fill width v w bits distance f h e k none = net_shifted l Right d fill 0 width v w bits distance f h e k
  net_moved Sshr signed d fill width v w bits distance f h e k none = net_shifted l Right d fill 0 width v w bits distance f h e k
  net_moved Shift true d fill width v w bits distance f h e k none = net_either l d fill width v w bits distance f h e k none
  net_moved Shift false d fill width v w bits distance f h e k none = net_shifted l Right d fill 0 width v w bits distance f h e k
  net_moved Shiftx true d fill width v w bits distance f h e k none = net_either l d fill width v w bits distance f h e k none
  net_moved Shiftx false d fill width v w bits distance f h e k none = net_shifted l Right d fill 0 width v w bits distance f h e k

  -- the net of a cell, where the operands are read in whatever way
  pub net_shift : (g : SigBit → Bit) (kind : ShiftKind) (shape : Shape) (c : Cell) → ((x : SigBit) → In x (pin_signal c A) → l.Has (g x) x) → ((x : SigBit) → In x (pin_signal c B) → l.Has (g x) x)
      → Net l (Unit {0}) (shift_by kind shape c)
      (λ ys.
      Goods l (moved_bits kind shape.signs.b (fill_bit kind shape.signs.a (map g (pin_signal c A))) (moved_width shape c) (extended_at shape.signs.a (map g (pin_signal c A))) (bits_at (map g (pin_signal c B))) (length (pin_signal c B))) ys
      × (length ys ≡ moved_width shape c))
  net_shift g kind shape c h k =
      net_moved kind shape.signs.b _ _ (moved_width shape c) _ (bits_at (map g (pin_signal c B))) (operand_of c A (moved_width shape c) shape.signs.a) (pin_signal c B)
      (λ r. fill_has g kind shape.signs.a (pin_signal c A) h)
      (λ r. goods_extended l g shape.signs.a (moved_width shape c) (pin_signal c A) h)
      (λ r. length-extended (pin_signal c A) (moved_width shape c) shape.signs.a)
      (λ r. goods_own l g S0 (pin_signal c B) k)
      (λ none. none_at (map g (pin_signal c B)) (length_map g (pin_signal c B) ∙ none))
