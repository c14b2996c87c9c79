-- The loop over the bits of a distance.
use Rattle.std.proofs.Common.{◌≡◌, ℕ, ◌+◌, ◌<◌, List, length, drop, get_or, refl, sym, ◌∙◌, ap, subst}
use Rattle.rtl_ir.specs.Build.{Building}
use Rattle.rtl_sig.specs.declared.sig.SigBit.{SigBit}
use Rattle.net_index.specs.Builder.{IsInLimits, PassesLimit}
use Rattle.gate_nets.specs.Gate.{after}
use Rattle.gate_nets.proofs.Steps.{left_at}
use Rattle.map_shift.specs.Shift.{shifted_from, step_of}
use Rattle.map_shift.specs.declared.moves.Way.{Way}
use Rattle.map_shift.proofs.Limits.{shift_limits}

pub shift_step : (way : Way) (fill : SigBit) (bits distance further : List SigBit) (place : ℕ) (d : SigBit) (old new : Building) → place < length distance
    → (further, new) ≡ step_of way fill place bits (get_or distance place d) old
    → shifted_from way fill (place + 1) further (drop (place + 1) distance) new ≡ shifted_from way fill place bits (drop place distance) old
unfolding after
shift_step way fill bits distance further place d old new h e =
    ap (λ (z : List SigBit × Building). shifted_from way fill (place + 1) z.0 (drop (place + 1) distance) z.1) e
    ∙ ap (λ z. shifted_from way fill place bits z old) (sym (left_at distance place d h))

pub shift_over : (way : Way) (fill : SigBit) (bits distance : List SigBit) (place : ℕ) (d : SigBit) (old : Building) (all : List SigBit × Building) → place < length distance
    → shifted_from way fill place bits (drop place distance) old ≡ all → PassesLimit (step_of way fill place bits (get_or distance place d) old).1 → PassesLimit all.1
shift_over way fill bits distance place d old all h e over fits =
    let here = step_of way fill place bits (get_or distance place d) old in
    over (shift_limits way fill (place + 1) here.0 (drop (place + 1) distance) here.1
    (subst (λ (z : List SigBit × Building). IsInLimits z.1) (sym (shift_step way fill bits distance here.0 place d old here.1 h refl ∙ e)) fits))
