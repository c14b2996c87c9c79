-- The nets of the values of word cells, and the gates of each word cell, are such as a text can give.
use Rattle.std.proofs.Common.{◌≡◌, ℕ, ◌+◌, Bool, true, false, List, length, sym, subst, arith, pos}
use Rattle.std.specs.Prelude.{if◌then◌else◌, map, replicate}
use Rattle.std.specs.List.{All}
use Rattle.std.proofs.lemmas.List.Elements.{All-nil, All-weaker}
use Rattle.cell_types.specs.PinName.{pin_text}
use Rattle.cell_types.specs.declared.gate.GateKind.TheVariants as Kind
use Rattle.cell_types.specs.declared.kind.CellKind.{CellKind}
use Rattle.cell_types.specs.declared.kind.CellKind.TheVariants.{Word}
use Rattle.cell_types.specs.declared.pin_name.PinName.{PinName}
use Rattle.cell_types.specs.declared.pin_name.PinName.TheVariants.{A, B, S, Y}
use Rattle.cell_types.specs.declared.shape.Shape.{Shape}
use Rattle.cell_types.specs.declared.word.ArithKind.TheVariants.{Mul}
use Rattle.cell_types.specs.declared.word.DivisionKind.{DivisionKind}
use Rattle.cell_types.specs.declared.word.UnaryKind.TheVariants.{Not}
use Rattle.cell_types.specs.declared.word.WordKind.TheVariants.{Unary, Bitwise, Arith, Division, Mux, Shift, Bwmux, Demux}
use Rattle.cell_word.specs.Values.{both_signed}
use Rattle.rtl_bits.specs.declared.bit.Bit.TheVariants.{S0, X}
use Rattle.rtl_sig.specs.declared.sig.SigBit.{SigBit}
use Rattle.rtl_sig.specs.declared.sig.SigBit.TheVariants.{Fixed}
use Rattle.rtl_ir.specs.Build.{Build, Building}
use Rattle.rtl_ir.specs.declared.cell.Cell.{Cell}
use Rattle.rtl_ir.specs.declared.wire.Wire.{Wire}
use Rattle.net_model.specs.Lists.{In}
use Rattle.map_laws.specs.Operand.{pin_signal}
use Rattle.rtl_readable.specs.Readable.{IsBitOf, IsCell, IsSignal}
use Rattle.rtl_readable.proofs.Signals as signals
use Rattle.readable_laws.specs.Extends.{Extends}
use Rattle.readable_laws.proofs.Extending.{extends_none}
use Rattle.gate_nets.specs.Gate.{gate_for}
use Rattle.gate_nets.specs.Give.{given}
use Rattle.gate_nets.proofs.Nets.{Net, net_pure, net_weaker}
use Rattle.gate_divide.proofs.Dividing.{net_divide}
use Rattle.gate_divide.proofs.Numbers.{zeros}
use Rattle.gate_divide.proofs.Signals.{Reads, reads_zeros}
use Rattle.map_add.proofs.Nets as add_nets
use Rattle.map_add.specs.Expand as adds
use Rattle.map_gates.proofs.Valued as gate_nets
use Rattle.map_gates.specs.Expand as gates
use Rattle.map_gates.specs.Gates.{bit_at}
use Rattle.map_mul.proofs.Operands.{length_extended, operand, reads_operand}
use Rattle.map_mul.proofs.Products.{net_product}
use Rattle.map_mul.specs.Expand as products
use Rattle.map_shift.proofs.Nets as shift_nets
use Rattle.map_shift.specs.Expand as shifts
use Rattle.readable_maps.proofs.Bits.{binary_extends, bit_is, bwmux_extends, mux_extends, unary_extends}
use Rattle.readable_maps.proofs.Demux.{demux_extends}
use Rattle.readable_maps.proofs.Nets.{Grows, each_bit_is, given_extends, goods_all, has}

-- a whole word stands above no bits
none_below : (n : ℕ) → n ≡ 0 + n
none_below n = omega arith

module _ (c : Cell) (b : Building) (is : IsCell b.body.wires c) where
  signal_is : (name : PinName) → IsSignal b.body.wires (pin_signal c name)
  signal_is name = signals.pin_signal b.body.wires c.pins (pin_text name) is.pins

  bits_are : (name : PinName) → All (IsBitOf b.body.wires) (pin_signal c name)
  bits_are name = (signal_is name).bits

  -- the bits of an operand, in a module with more wires
  module _ (wires : List Wire) (more : Grows b.body.wires wires) where
    each_is : (name : PinName) (s : SigBit) → In s (pin_signal c name) → IsBitOf wires s
    each_is name =
        each_bit_is wires (pin_signal c name) (All-weaker (IsBitOf b.body.wires) (IsBitOf wires) more (pin_signal c name) (bits_are name))

    -- of products and quotients nothing is asked but their bits
    net_product_is : (shape : Shape) → Net (has wires) (Unit {0}) (products.multiplied_of shape c) (All (IsBitOf wires))
    net_product_is shape =
        let n : ℕ = shape.widths.y in
        let signed : Bool = both_signed shape in
        let width = length_extended (pin_signal c A) n signed in
        net_weaker (has wires)
        (net_product (has wires) ⊥ (products.operand_of shape c B n) n 0 n 0 _ _ (none_below n) (zeros ⊥ n) (operand ⊥ signed n (map (λ s. X) (pin_signal c A)) (λ k. absurd k)) (operand ⊥ signed n (map (λ s. X) (pin_signal c B)) (λ k. absurd k))
        (replicate (length (products.operand_of shape c A n)) (Fixed S0)) (products.operand_of shape c A n) (length_extended (pin_signal c B) n signed)
        (λ r. subst (λ z. Reads (has wires) ⊥ n 0 (zeros ⊥ n) (replicate z (Fixed S0))) (sym width) (reads_zeros (has wires) ⊥ n))
        (λ r. reads_operand (has wires) ⊥ (λ s. X) signed n (pin_signal c A) (λ k. absurd k) (each_is A))
        (λ r. reads_operand (has wires) ⊥ (λ s. X) signed n (pin_signal c B) (λ k. absurd k) (each_is B)))
        (λ bits w. goods_all wires _ bits w.has)

    net_quotient_is : (kind : DivisionKind) (shape : Shape) → Net (has wires) (Unit {0}) (products.divided_of kind shape c) (All (IsBitOf wires))
    net_quotient_is kind shape =
        let n : ℕ = products.greatest_width shape c in
        let signed : Bool = both_signed shape in
        net_weaker (has wires)
        (net_divide ⊥ n _ _ (pos 0) (pos 0) (operand ⊥ signed n (map (λ s. X) (pin_signal c A)) (λ k. absurd k)) (operand ⊥ signed n (map (λ s. X) (pin_signal c B)) (λ k. absurd k)) (λ k. absurd k) (has wires) kind signed (λ k. absurd k) (λ k. absurd k)
        (products.operand_of shape c A n) (products.operand_of shape c B n)
        (λ r. reads_operand (has wires) ⊥ (λ s. X) signed n (pin_signal c A) (λ k. absurd k) (each_is A))
        (λ r. reads_operand (has wires) ⊥ (λ s. X) signed n (pin_signal c B) (λ k. absurd k) (each_is B)))
        (λ bits w. goods_all wires _ bits w.has)

    product_value : (kind : CellKind) (shape : Shape) → Net (has wires) (Unit {0}) (products.value_of kind shape c) (All (IsBitOf wires))
    product_value (Word (Arith Mul)) shape = net_product_is shape
    product_value (Word (Division kind)) shape = net_quotient_is kind shape
    product_value kind shape = net_pure (has wires) (λ r. All-nil (IsBitOf wires))

    shift_value : (kind : CellKind) (shape : Shape) → Net (has wires) (Unit {0}) (shifts.value_of kind shape c) (All (IsBitOf wires))
    shift_value (Word (Shift kind)) shape =
        net_weaker (has wires) (shift_nets.net_shift (has wires) (λ s. X) kind shape c (each_is A) (each_is B)) (λ bits w. goods_all wires _ bits w.0)
    shift_value kind shape = net_pure (has wires) (λ r. All-nil (IsBitOf wires))

  -- the value of a cell, given to Y, where the kind is one of a map
  given_is : (t : Bool) (m : Build (List SigBit)) → ((wires : List Wire) → Grows b.body.wires wires → Net (has wires) (Unit {0}) m (All (IsBitOf wires))) → Extends b (if t then given (pin_signal c Y) m b else b)
  given_is true m net = given_extends (pin_signal c Y) m b (signal_is Y) net
  given_is false m net = extends_none b

  pub adds_extend : (shape : Shape) → Extends b (adds.map_of shape c b)
  adds_extend shape =
      given_is (adds.is_mapped shape.kind) (adds.value_of shape.kind shape c)
      (λ wires more.
      net_weaker (has wires) (add_nets.net_value (has wires) (λ s. X) shape c shape.kind (each_is wires more A) (each_is wires more B)) (λ bits w. goods_all wires _ bits w.0))

  pub products_extend : (shape : Shape) → Extends b (products.map_of shape c b)
  products_extend shape =
      given_is (products.is_mapped shape.kind) (products.value_of shape.kind shape c) (λ wires more. product_value wires more shape.kind shape)

  pub shifts_extend : (shape : Shape) → Extends b (shifts.map_of shape c b)
  shifts_extend shape =
      given_is (shifts.is_mapped shape.kind) (shifts.value_of shape.kind shape c) (λ wires more. shift_value wires more shape.kind shape)

  gates_extend : (kind : CellKind) (shape : Shape) → Extends b (gates.gates_of kind shape c b)
  gates_extend (Word (Unary Not)) shape = unary_extends b Kind.Not shape.signs.a (pin_signal c A) (pin_signal c Y) (bits_are A) (bits_are Y)
  gates_extend (Word (Bitwise kind)) shape =
      binary_extends b (gate_for kind) (both_signed shape) (pin_signal c A) (pin_signal c B) (pin_signal c Y) (bits_are A) (bits_are B) (bits_are Y)
  gates_extend (Word Mux) shape =
      mux_extends b (pin_signal c A) (pin_signal c B) (bit_at false (pin_signal c S) 0) (pin_signal c Y) (bits_are A) (bits_are B) (bit_is b.body.wires false (pin_signal c S) 0 (bits_are S)) (bits_are Y)
  gates_extend (Word Bwmux) shape =
      bwmux_extends b (pin_signal c A) (pin_signal c B) (pin_signal c S) (pin_signal c Y) (bits_are A) (bits_are B) (bits_are S) (bits_are Y)
  gates_extend (Word Demux) shape =
      demux_extends (pin_signal c A) (pin_signal c S) (pin_signal c Y) b (bits_are A) (bits_are S) (bits_are Y)
  gates_extend (Word kind) shape =
      given_is (gates.is_given kind) (gates.value_of kind shape c)
      (λ wires more.
      net_weaker (has wires) (gate_nets.net_value (has wires) (λ s. X) shape c kind (each_is wires more A) (each_is wires more B) (each_is wires more S)) (λ bits w. goods_all wires _ bits w.0))
  gates_extend kind shape = extends_none b

  pub bits_extend : (shape : Shape) → Extends b (gates.map_of shape c b)
  bits_extend shape = gates_extend shape.kind shape
