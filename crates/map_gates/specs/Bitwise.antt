-- The gates of the cells that work bit by bit: each drives its bit of Y.
use Rattle.std.specs.Prelude.{Bool, false, List}
use Rattle.cell_types.specs.declared.gate.GateKind.{GateKind}
use Rattle.rtl_ir.specs.Build.{Building}
use Rattle.rtl_sig.specs.declared.sig.SigBit.{SigBit}
use Rattle.map_gates.specs.Gates.{binary_gate, bit_at, each_bit, mux_gate, unary_gate}

-- Y[i] = the gate of A[i]
abbrev pub unary_gates : GateKind → Bool → List SigBit → List SigBit → Building → Building
unary_gates kind signed a ys = each_bit (λ at y. unary_gate kind (bit_at signed a at) y) 0 ys

-- Y[i] = the gate of A[i] and B[i]
abbrev pub binary_gates : GateKind → Bool → List SigBit → List SigBit → List SigBit → Building → Building
binary_gates kind signed a b ys =
    each_bit (λ at y. binary_gate kind (bit_at signed a at) (bit_at signed b at) y) 0 ys

-- Y[i] = MUX(A[i], B[i], S)
abbrev pub mux_gates : List SigBit → List SigBit → SigBit → List SigBit → Building → Building
mux_gates a b s ys = each_bit (λ at y. mux_gate (bit_at false a at) (bit_at false b at) s y) 0 ys

-- Y[i] = MUX(A[i], B[i], S[i])
abbrev pub bwmux_gates : List SigBit → List SigBit → List SigBit → List SigBit → Building → Building
bwmux_gates a b s ys = each_bit (λ at y. mux_gate (bit_at false a at) (bit_at false b at) (bit_at false s at) y) 0 ys
