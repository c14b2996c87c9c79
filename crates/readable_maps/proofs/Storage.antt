-- The gates of storage cells are such as a text can give.
use Rattle.std.proofs.Common.{◌≡◌, ℕ, suc, Bool, true, false, List, [], ◌∷◌, refl, sym, subst}
use Rattle.std.specs.Prelude.{codes, map}
use Rattle.std.specs.List.{All, list_all}
use Rattle.std.proofs.lemmas.List.Elements.{All-cons, All-nil}
use Rattle.cell_types.specs.PinName.{pin_text}
use Rattle.cell_types.specs.Pins.{storage_gate_pins}
use Rattle.cell_types.specs.declared.kind.CellKind.{CellKind}
use Rattle.cell_types.specs.declared.kind.CellKind.TheVariants as Cells
use Rattle.cell_types.specs.declared.level.Level.{Level}
use Rattle.cell_types.specs.declared.level.Level.TheVariants.{Low, High}
use Rattle.cell_types.specs.declared.pin_name.PinName.{PinName}
use Rattle.cell_types.specs.declared.pin_name.PinName.TheVariants.{S, Clk, En, Arst, Srst, Aload, Set, Clr, Q, C, E, R, L}
use Rattle.cell_types.specs.declared.shape.Shape.{Shape}
use Rattle.cell_types.specs.declared.storage.StorageKind.{StorageKind}
use Rattle.cell_types.specs.declared.storage.StorageKind.TheVariants as Kind
use Rattle.cell_types.specs.declared.storage_gate.StorageGate.{StorageGate}
use Rattle.cell_types.specs.declared.storage_gate.StorageGate.TheVariants as Gate
use Rattle.rtl_bits.specs.declared.bit.Bit.TheVariants.{X}
use Rattle.rtl_lex.specs.Bytes.{is_name}
use Rattle.rtl_sig.specs.declared.sig.SigBit.{SigBit}
use Rattle.rtl_sig.specs.declared.sig.SigBit.TheVariants.{Fixed}
use Rattle.rtl_ir.specs.Build.{Building, new_cell}
use Rattle.rtl_ir.specs.declared.cell.Cell.{Cell}
use Rattle.rtl_ir.specs.declared.wire.Wire.{Wire}
use Rattle.net_index.specs.BuilderNames.{digit_of, letter_of, name_of}
use Rattle.map_laws.specs.Operand.{pin_signal}
use Rattle.rtl_readable.specs.Readable.{IsBitOf, IsCell, IsName, IsPin}
use Rattle.rtl_readable.proofs.Signals as signals
use Rattle.readable_laws.specs.Extends.{Extends}
use Rattle.readable_laws.proofs.Cells.{are_apart}
use Rattle.readable_laws.proofs.Extending.{extends_none}
use Rattle.map_flop.specs.Expand.{each_bit, gates_of, map_of}
use Rattle.map_flop.specs.Gate.{bit_gate}
use Rattle.map_flop.specs.Pins.{gate_bit, gate_pin, gate_pins, pin_bit, reset_bit}
use Rattle.map_gates.specs.Gates as rows
use Rattle.readable_maps.proofs.Bits.{at_is, each_extends}
use Rattle.readable_maps.proofs.Nets.{one_is, pin_names}

-- characters that a name may have
letter_is : (level : Level) → is_name (letter_of level) ≡ true
letter_is Low = refl
letter_is High = refl

digit_is : (value : Bool) → is_name (digit_of value) ≡ true
digit_is true = refl
digit_is false = refl

then_names : (d : ℕ) (ds : List ℕ) → is_name d ≡ true → list_all is_name ds ≡ true → list_all is_name (d ∷ ds) ≡ true
then_names d ds h k = rw (h, k) refl

-- the end of the name of a gate, behind these levels
end_one : (a : Level) → list_all is_name (letter_of a ∷ codes "_") ≡ true
end_one a = then_names (letter_of a) (codes "_") (letter_is a) refl

end_two : (a b : Level) → list_all is_name (letter_of a ∷ letter_of b ∷ codes "_") ≡ true
end_two a b = then_names (letter_of a) (letter_of b ∷ codes "_") (letter_is a) (end_one b)

end_three : (a b c : Level) → list_all is_name (letter_of a ∷ letter_of b ∷ letter_of c ∷ codes "_") ≡ true
end_three a b c = then_names (letter_of a) (letter_of b ∷ letter_of c ∷ codes "_") (letter_is a) (end_two b c)

end_four : (a b c d : Level) → list_all is_name (letter_of a ∷ letter_of b ∷ letter_of c ∷ letter_of d ∷ codes "_") ≡ true
end_four a b c d =
    then_names (letter_of a) (letter_of b ∷ letter_of c ∷ letter_of d ∷ codes "_") (letter_is a) (end_three b c d)

-- behind two levels and a value
end_reset : (a b : Level) (v : Bool) (ds : List ℕ) → list_all is_name ds ≡ true → list_all is_name (letter_of a ∷ letter_of b ∷ digit_of v ∷ ds) ≡ true
end_reset a b v ds h =
    then_names (letter_of a) (letter_of b ∷ digit_of v ∷ ds) (letter_is a)
    (then_names (letter_of b) (digit_of v ∷ ds) (letter_is b) (then_names (digit_of v) ds (digit_is v) h))

gate_is_name : (gate : StorageGate) → IsName (name_of (Cells.StorageGate gate))
gate_is_name Gate.Ff = refl
gate_is_name (Gate.Dff clk) = end_one clk
gate_is_name (Gate.Dffe clk en) = end_two clk en
gate_is_name (Gate.Adff clk arst value) = end_reset clk arst value (codes "_") refl
gate_is_name (Gate.Adffe clk arst value en) = end_reset clk arst value (letter_of en ∷ codes "_") (end_one en)
gate_is_name (Gate.Sdff clk srst value) = end_reset clk srst value (codes "_") refl
gate_is_name (Gate.Sdffe clk srst value en) = end_reset clk srst value (letter_of en ∷ codes "_") (end_one en)
gate_is_name (Gate.Sdffce clk srst value en) = end_reset clk srst value (letter_of en ∷ codes "_") (end_one en)
gate_is_name (Gate.Dffsr clk set clr) = end_three clk set clr
gate_is_name (Gate.Dffsre clk set clr en) = end_four clk set clr en
gate_is_name (Gate.Aldff clk aload) = end_two clk aload
gate_is_name (Gate.Aldffe clk aload en) = end_three clk aload en
gate_is_name (Gate.Dlatch en) = end_one en
gate_is_name (Gate.Adlatch en arst value) = end_reset en arst value (codes "_") refl
gate_is_name (Gate.Dlatchsr en set clr) = end_three en set clr
gate_is_name (Gate.Sr set clr) = end_two set clr

-- the pins of a gate have names of their own
pins_apart : (bit : PinName → SigBit) (gate : StorageGate) → are_apart (pin_names (map (λ name. gate_pin name (bit name)) (storage_gate_pins gate))) ≡ true
pins_apart bit Gate.Ff = refl
pins_apart bit (Gate.Dff clk) = refl
pins_apart bit (Gate.Dffe clk en) = refl
pins_apart bit (Gate.Adff clk arst value) = refl
pins_apart bit (Gate.Adffe clk arst value en) = refl
pins_apart bit (Gate.Sdff clk srst value) = refl
pins_apart bit (Gate.Sdffe clk srst value en) = refl
pins_apart bit (Gate.Sdffce clk srst value en) = refl
pins_apart bit (Gate.Dffsr clk set clr) = refl
pins_apart bit (Gate.Dffsre clk set clr en) = refl
pins_apart bit (Gate.Aldff clk aload) = refl
pins_apart bit (Gate.Aldffe clk aload en) = refl
pins_apart bit (Gate.Dlatch en) = refl
pins_apart bit (Gate.Adlatch en arst value) = refl
pins_apart bit (Gate.Dlatchsr en set clr) = refl
pins_apart bit (Gate.Sr set clr) = refl

module _ (wires : List Wire) (c : Cell) (is : IsCell wires c) where
  pin_bit_is : (name : PinName) (at : ℕ) → IsBitOf wires (pin_bit c name at)
  pin_bit_is name at =
      at_is wires (Fixed X) tt (pin_signal c name) at (signals.pin_signal wires c.pins (pin_text name) is.pins).bits

  module _ (at : ℕ) (q : SigBit) (h : IsBitOf wires q) where
    reset_bit_is : (kind : StorageKind) → IsBitOf wires (reset_bit kind c at)
    reset_bit_is Kind.Adff = pin_bit_is Arst 0
    reset_bit_is Kind.Adffe = pin_bit_is Arst 0
    reset_bit_is Kind.Adlatch = pin_bit_is Arst 0
    reset_bit_is Kind.Sdff = pin_bit_is Srst 0
    reset_bit_is Kind.Sdffe = pin_bit_is Srst 0
    reset_bit_is Kind.Sdffce = pin_bit_is Srst 0
    reset_bit_is kind = pin_bit_is Clr at

    gate_bit_is : (kind : StorageKind) (name : PinName) → IsBitOf wires (gate_bit kind c at q name)
    gate_bit_is kind C = pin_bit_is Clk 0
    gate_bit_is kind E = pin_bit_is En 0
    gate_bit_is kind L = pin_bit_is Aload 0
    gate_bit_is kind S = pin_bit_is Set at
    gate_bit_is kind R = reset_bit_is kind
    gate_bit_is kind Q = h
    gate_bit_is kind pin = pin_bit_is pin at

    pins_are : (kind : StorageKind) (names : List PinName) → All (IsPin wires) (map (λ name. gate_pin name (gate_bit kind c at q name)) names)
    pins_are kind [] = All-nil (IsPin wires)
    pins_are kind (name ∷ names) =
        All-cons (IsPin wires) (gate_pin name (gate_bit kind c at q name)) (map (λ name. gate_pin name (gate_bit kind c at q name)) names)
        (one_is wires name (gate_bit kind c at q name) (gate_bit_is kind name)) (pins_are kind names)

-- a cell for each bit, as other maps have it
same_rows : (put : ℕ → SigBit → Building → Building) (at : ℕ) (qs : List SigBit) (b : Building) → each_bit put at qs b ≡ rows.each_bit put at qs b
same_rows put at [] b = refl
same_rows put at (q ∷ qs) b = same_rows put (suc at) qs (put at q b)

module _ (c : Cell) (b : Building) (is : IsCell b.body.wires c) (shape : Shape) where
  storage_extends : (kind : CellKind) → Extends b (gates_of kind shape c b)
  storage_extends (Cells.Storage kind) =
      subst (Extends b) (sym (same_rows (λ at q. new_cell (name_of (Cells.StorageGate (bit_gate kind shape at))) [] (gate_pins kind (bit_gate kind shape at) c at q)) 0 (pin_signal c Q) b))
      (each_extends (λ at. name_of (Cells.StorageGate (bit_gate kind shape at))) (λ at q. gate_pins kind (bit_gate kind shape at) c at q) 0 (pin_signal c Q) b
      (λ at q h. record {
        named = gate_is_name (bit_gate kind shape at);
        apart = pins_apart (gate_bit kind c at q) (bit_gate kind shape at);
        pins_are = pins_are b.body.wires c is at q h kind (storage_gate_pins (bit_gate kind shape at));
      })
      (signals.pin_signal b.body.wires c.pins (pin_text Q) is.pins).bits)
  storage_extends kind = extends_none b

  pub flops_extend : Extends b (map_of shape c b)
  flops_extend = storage_extends shape.kind
