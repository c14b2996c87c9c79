-- Gates with fresh wires of one bit at their outputs.
use Rattle.std.specs.Prelude.{ℕ, List, [], ◌∷◌, length}
use Rattle.cell_types.specs.PinName.{pin_text}
use Rattle.cell_types.specs.declared.gate.GateKind.{GateKind}
use Rattle.cell_types.specs.declared.gate.GateKind.TheVariants as Kind
use Rattle.cell_types.specs.declared.pin_name.PinName.{PinName}
use Rattle.cell_types.specs.declared.pin_name.PinName.TheVariants.{A, B, S, Y}
use Rattle.cell_types.specs.declared.word.BitwiseKind.{BitwiseKind}
use Rattle.cell_types.specs.declared.word.BitwiseKind.TheVariants.{And, Or, Xor, Xnor}
use Rattle.rtl_ir.specs.Build.{Build, new_driver, pin_of}
use Rattle.rtl_ir.specs.declared.cell.Pin.{Pin}
use Rattle.rtl_sig.specs.declared.sig.SigBit.{SigBit}
use Rattle.rtl_sig.specs.declared.sig.SigBit.TheVariants.{Wire as OnWire}
use Rattle.net_index.specs.BuilderNames.{gate_name}
use Rattle.gate_nets.specs.declared.gate.Gate.{Gate}
use Rattle.gate_nets.specs.declared.gate.Gate.TheVariants.{Not, Bitwise, Mux}

-- a result, and nothing is added
abbrev pub pure : {A : Type 0} → A → Build A
pure a b = (a, b)

-- one step, and then another one with the result of the first
unfoldable pub after : {A B : Type 0} → Build A → (A → Build B) → Build B
after m next b = next (m b).0 (m b).1

infixl 10 ◌>>=◌
abbrev pub ◌>>=◌ : {A B : Type 0} → Build A → (A → Build B) → Build B
m >>= next = after m next

-- the gate that does with bits what a kind does with words
abbrev pub gate_for : BitwiseKind → GateKind
gate_for And = Kind.And
gate_for Or = Kind.Or
gate_for Xor = Kind.Xor
gate_for Xnor = Kind.Xnor

-- the kind of a gate
abbrev pub kind_of : Gate → GateKind
kind_of (Not a) = Kind.Not
kind_of (Bitwise kind a b) = gate_for kind
kind_of (Mux a b s) = Kind.Mux

-- a pin of one bit
abbrev pub one : PinName → SigBit → Pin
one name bit = pin_of (pin_text name) (bit ∷ [])

-- the pins at which a gate has its inputs
abbrev pub inputs_of : Gate → List Pin
inputs_of (Not a) = one A a ∷ []
inputs_of (Bitwise kind a b) = one A a ∷ one B b ∷ []
inputs_of (Mux a b s) = one A a ∷ one B b ∷ one S s ∷ []

-- the bit of the wire of one bit at a place of the list of wires
abbrev pub bit_of : ℕ → SigBit
bit_of wire = OnWire (record { wire = wire; at = 0 })

-- a gate goes last, and then a fresh wire at its output; the result is the wire's bit
unfoldable pub gate_of : Gate → Build SigBit
gate_of g b = (bit_of (length b.body.wires), (new_driver (gate_name (kind_of g)) [] (inputs_of g) (pin_text Y) 1 b).1)
