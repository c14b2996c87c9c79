-- The values of combinational gates.
use Rattle.rtl_bits.specs.declared.bit.Bit.{Bit}
use Rattle.rtl_bits.specs.declared.bit.Bit.TheVariants.{X}
use Rattle.rtl_bits.specs.Tables.{seen_of, not_of, and_of, or_of, xor_of, mux_of}
use Rattle.cell_types.specs.declared.kind.CellKind.{CellKind}
use Rattle.cell_types.specs.declared.kind.CellKind.TheVariants.{Gate}
use Rattle.cell_types.specs.declared.gate.GateKind.{GateKind}
use Rattle.cell_types.specs.declared.gate.GateKind.TheVariants.{Buf, Not, And, Nand, Or, Nor, Xor, Xnor, AndNot, OrNot, Mux, Nmux}

-- what a gate gives for the bits at its pins A, B and S, of which it reads those that it has
abbrev pub output_of : GateKind → Bit → Bit → Bit → Bit
output_of Buf a b s = seen_of a
output_of Not a b s = not_of a
output_of And a b s = and_of a b
output_of Nand a b s = not_of (and_of a b)
output_of Or a b s = or_of a b
output_of Nor a b s = not_of (or_of a b)
output_of Xor a b s = xor_of a b
output_of Xnor a b s = not_of (xor_of a b)
output_of AndNot a b s = and_of a (not_of b)
output_of OrNot a b s = or_of a (not_of b)
output_of Mux a b s = mux_of a b s
output_of Nmux a b s = not_of (mux_of a b s)

-- a cell is a combinational gate
abbrev pub IsGate : CellKind → Type 0
IsGate (Gate gate) = Unit {0}
IsGate kind = ⊥

-- the value of a cell that is one; of any other cell it is x, which nothing reads
abbrev pub gate_value_of : CellKind → Bit → Bit → Bit → Bit
gate_value_of (Gate gate) a b s = output_of gate a b s
gate_value_of kind a b s = X
