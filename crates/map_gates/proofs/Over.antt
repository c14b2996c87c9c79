-- Where one of the gates of a cell passes a limit, all of them do.
use Rattle.std.proofs.Common.{◌≡◌, ℕ, ◌<◌, Bool, false, List, [], ◌∷◌, length, drop, get_or}
use Rattle.cell_types.specs.declared.gate.GateKind.{GateKind}
use Rattle.cell_types.specs.declared.gate.GateKind.TheVariants.{Mux}
use Rattle.cell_types.specs.declared.pin_name.PinName.TheVariants.{A, B, S, Y}
use Rattle.rtl_ir.specs.Build.{Building}
use Rattle.rtl_sig.specs.declared.sig.SigBit.{SigBit}
use Rattle.net_index.specs.Builder.{PassesLimit}
use Rattle.net_index.specs.BuilderNames.{gate_name}
use Rattle.gate_nets.specs.Gate.{one}
use Rattle.map_gates.specs.Gates.{binary_gate, bit_at, each_bit, mux_gate, unary_gate}
use Rattle.map_gates.proofs.Adding.{cell_named, over_here}

pub unary_over : (kind : GateKind) (signed : Bool) (a : List SigBit) (at : ℕ) (ys : List SigBit) (b all : Building) (d : SigBit) → at < length ys
    → each_bit (λ at y. unary_gate kind (bit_at signed a at) y) at (drop at ys) b ≡ all
    → PassesLimit (unary_gate kind (bit_at signed a at) (get_or ys at d) b) → PassesLimit all
unary_over kind signed a at ys b all d =
    over_here (λ at n y. cell_named (gate_name kind) [] (one A (bit_at signed a at) ∷ one Y y ∷ []) n) at ys b all d

pub binary_over : (kind : GateKind) (signed : Bool) (a b : List SigBit) (at : ℕ) (ys : List SigBit) (old all : Building) (d : SigBit) → at < length ys
    → each_bit (λ at y. binary_gate kind (bit_at signed a at) (bit_at signed b at) y) at (drop at ys) old ≡ all
    → PassesLimit (binary_gate kind (bit_at signed a at) (bit_at signed b at) (get_or ys at d) old) → PassesLimit all
binary_over kind signed a b at ys old all d =
    over_here (λ at n y. cell_named (gate_name kind) [] (one A (bit_at signed a at) ∷ one B (bit_at signed b at) ∷ one Y y ∷ []) n) at ys old all d

pub mux_over : (a b : List SigBit) (s : SigBit) (at : ℕ) (ys : List SigBit) (old all : Building) (d : SigBit) → at < length ys
    → each_bit (λ at y. mux_gate (bit_at false a at) (bit_at false b at) s y) at (drop at ys) old ≡ all
    → PassesLimit (mux_gate (bit_at false a at) (bit_at false b at) s (get_or ys at d) old) → PassesLimit all
mux_over a b s at ys old all d =
    over_here (λ at n y. cell_named (gate_name Mux) [] (one A (bit_at false a at) ∷ one B (bit_at false b at) ∷ one S s ∷ one Y y ∷ []) n) at ys old all d

pub bwmux_over : (a b s : List SigBit) (at : ℕ) (ys : List SigBit) (old all : Building) (d : SigBit) → at < length ys
    → each_bit (λ at y. mux_gate (bit_at false a at) (bit_at false b at) (bit_at false s at) y) at (drop at ys) old ≡ all
    → PassesLimit (mux_gate (bit_at false a at) (bit_at false b at) (bit_at false s at) (get_or ys at d) old) → PassesLimit all
bwmux_over a b s at ys old all d =
    over_here (λ at n y. cell_named (gate_name Mux) [] (one A (bit_at false a at) ∷ one B (bit_at false b at) ∷ one S (bit_at false s at) ∷ one Y y ∷ []) n) at ys old all d
