-- Where a part of a net passes a limit, the whole net does.
use Rattle.std.proofs.Common.{ℕ, ◌+◌, List, [], ◌∷◌, length}
use Rattle.std.specs.Prelude.{replicate}
use Rattle.rtl_bits.specs.declared.bit.Bit.TheVariants.{S0, S1}
use Rattle.rtl_ir.specs.Build.{Building}
use Rattle.rtl_sig.specs.declared.sig.SigBit.{SigBit}
use Rattle.rtl_sig.specs.declared.sig.SigBit.TheVariants.{Fixed}
use Rattle.net_index.specs.Builder.{IsInLimits}
use Rattle.gate_nets.specs.Gate.{after}
use Rattle.gate_nets.specs.Sum.{negative_of}
use Rattle.gate_nets.specs.Words.{inverse_of, select_of}
use Rattle.gate_nets.specs.declared.gate.Gate.TheVariants.{Not, Mux}
use Rattle.gate_nets.proofs.Limits.{each_limits, pairs_limits, sum_limits}
use Rattle.map_shift.specs.Shift.{shifted_from, step_of}
use Rattle.map_shift.specs.declared.moves.Way.{Way}

pub select_limits : (x y : List SigBit) (s : SigBit) (b : Building) → IsInLimits (select_of x y s b).1 → IsInLimits b
select_limits x y s b h = pairs_limits (λ u v. Mux u v s) x y b h

pub negative_limits : (bits : List SigBit) (b : Building) → IsInLimits (negative_of bits b).1 → IsInLimits b
unfolding after
negative_limits bits b h =
    each_limits Not bits b (sum_limits (replicate (length bits) (Fixed S0)) (inverse_of bits b).0 (Fixed S1) (inverse_of bits b).1 h)

pub shift_limits : (way : Way) (fill : SigBit) (place : ℕ) (bits distance : List SigBit) (b : Building) → IsInLimits (shifted_from way fill place bits distance b).1 → IsInLimits b
unfolding after
shift_limits way fill place bits [] b h = h
shift_limits way fill place bits (by ∷ distance) b h =
    let here = step_of way fill place bits by b in
    select_limits bits _ by b (shift_limits way fill (place + 1) here.0 distance here.1 h)
