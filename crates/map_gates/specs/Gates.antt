-- Gates that are added to a module, one for each bit of an output.
use Rattle.std.specs.Prelude.{ℕ, suc, Bool, List, [], ◌∷◌, slice_index_or}
use Rattle.cell_types.specs.declared.gate.GateKind.{GateKind}
use Rattle.cell_types.specs.declared.gate.GateKind.TheVariants.{Mux}
use Rattle.cell_types.specs.declared.pin_name.PinName.TheVariants.{A, B, S, Y}
use Rattle.rtl_ir.specs.Build.{Building, new_cell}
use Rattle.rtl_sig.specs.Signal.{fill_of}
use Rattle.rtl_sig.specs.declared.sig.SigBit.{SigBit}
use Rattle.net_index.specs.BuilderNames.{gate_name}
use Rattle.gate_nets.specs.Gate.{one}

-- the bit of an operand at any place: past its end its top bit where it is signed, else 0
abbrev pub bit_at : Bool → List SigBit → ℕ → SigBit
bit_at signed bits at = slice_index_or bits at (fill_of bits signed)

-- a gate of one input goes last
abbrev pub unary_gate : GateKind → SigBit → SigBit → Building → Building
unary_gate kind a y = new_cell (gate_name kind) [] (one A a ∷ one Y y ∷ [])

-- a gate of two inputs goes last
abbrev pub binary_gate : GateKind → SigBit → SigBit → SigBit → Building → Building
binary_gate kind a b y = new_cell (gate_name kind) [] (one A a ∷ one B b ∷ one Y y ∷ [])

-- a multiplexer of one bit goes last
abbrev pub mux_gate : SigBit → SigBit → SigBit → SigBit → Building → Building
mux_gate a b s y = new_cell (gate_name Mux) [] (one A a ∷ one B b ∷ one S s ∷ one Y y ∷ [])

-- a gate for each bit of an output, bits rising from a place on
abbrev pub each_bit : (ℕ → SigBit → Building → Building) → ℕ → List SigBit → Building → Building
each_bit gate at [] b = b
each_bit gate at (y ∷ ys) b = each_bit gate (suc at) ys (gate at y b)
