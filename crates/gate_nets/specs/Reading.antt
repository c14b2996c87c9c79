-- What gates compute: readings of bits in which each gate's output has what the gate gives.
use Rattle.std.specs.Prelude.{◌≡◌, ℕ, ◌+◌, List, [], ◌∷◌, length}
use Rattle.cell_gate.specs.Gates.{output_of}
use Rattle.rtl_bits.specs.Knowledge.{Below}
use Rattle.rtl_bits.specs.declared.bit.Bit.{Bit}
use Rattle.rtl_bits.specs.declared.bit.Bit.TheVariants.{X}
use Rattle.rtl_ir.specs.Build.{Building}
use Rattle.rtl_sig.specs.declared.sig.SigBit.{SigBit}
use Rattle.rtl_sig.specs.declared.sig.SigBit.TheVariants.{Fixed}
use Rattle.gate_nets.specs.Gate.{bit_of, gate_for, gate_of}
use Rattle.gate_nets.specs.declared.gate.Gate.{Gate}
use Rattle.gate_nets.specs.declared.gate.Gate.TheVariants.{Not, Bitwise, Mux}
use Rattle.cell_types.specs.declared.gate.GateKind.TheVariants as Kind

-- a reading gives each bit of a signal a value, and reads constants as they are
pub record IsReading (f : SigBit → Bit) : Type 0 where
  pub constant : (b : Bit) → f (Fixed b) ≡ b

-- what a gate gives for its inputs as they are read
abbrev pub value_of : (SigBit → Bit) → Gate → Bit
value_of f (Not a) = output_of Kind.Not (f a) X X
value_of f (Bitwise kind a b) = output_of (gate_for kind) (f a) (f b) X
value_of f (Mux a b s) = output_of Kind.Mux (f a) (f b) (f s)

-- gates one after another
abbrev pub gates_of : List Gate → Building → Building
gates_of [] b = b
gates_of (g ∷ gates) b = gates_of gates (gate_of g b).1

-- a reading obeys gates, whose outputs are the wires of one bit from a place on: each of these has at least what its gate
-- gives
abbrev pub Obeys : (SigBit → Bit) → ℕ → List Gate → Type 0
Obeys f at [] = Unit {0}
Obeys f at (g ∷ gates) = Below (value_of f g) (f (bit_of at)) × Obeys f (at + 1) gates

-- a step adds gates alone, and a fact is so of each reading of this kind that obeys them
pub record Computes {A : Type 0} (f : SigBit → Bit) (old : Building) (step : A × Building) (fact : Type 0) : Type 0 where
  pub gates : List Gate
  pub is : step.1 ≡ gates_of gates old
  pub holds : Obeys f (length old.body.wires) gates → fact
