-- The loop of a choice, and where it passes a limit.
use Rattle.std.proofs.Common.{◌≡◌, ℕ, ◌+◌, ◌<◌, List, [], ◌∷◌, length, drop, get_or, take, refl, sym, ◌∙◌, ap, subst}
use Rattle.rtl_ir.specs.Build.{Building}
use Rattle.rtl_sig.specs.declared.sig.SigBit.{SigBit}
use Rattle.net_index.specs.Builder.{IsInLimits, PassesLimit}
use Rattle.gate_nets.proofs.Limits.{pairs_limits}
use Rattle.gate_nets.proofs.Steps.{left_at}
use Rattle.gate_nets.specs.Gate.{after}
use Rattle.gate_nets.specs.Words.{select_of}
use Rattle.gate_nets.specs.declared.gate.Gate.TheVariants.{Mux}
use Rattle.map_gates.specs.Choice.{chosen_of}

pub chosen_limits : (width : ℕ) (word parts selects : List SigBit) (b : Building) → IsInLimits (chosen_of width word parts selects b).1 → IsInLimits b
unfolding after
chosen_limits width word parts [] b h = h
chosen_limits width word parts (s ∷ selects) b h =
    pairs_limits (λ x y. Mux x y s) word (take width parts) b (chosen_limits width (select_of word (take width parts) s b).0 (drop width parts) selects (select_of word (take width parts) s b).1 h)

pub chosen_step : (width : ℕ) (word parts selects : List SigBit) (at : ℕ) (d : SigBit) (next : List SigBit) (old new : Building) → at < length selects → (next, new) ≡ select_of word (take width parts) (get_or selects at d) old
    → chosen_of width next (drop width parts) (drop (at + 1) selects) new ≡ chosen_of width word parts (drop at selects) old
unfolding after
chosen_step width word parts selects at d next old new h e =
    ap (λ g. chosen_of width g.0 (drop width parts) (drop (at + 1) selects) g.1) e ∙ ap (λ z. chosen_of width word parts z old) (sym (left_at selects at d h))

pub chosen_over : (width : ℕ) (word parts selects : List SigBit) (at : ℕ) (d : SigBit) (old : Building) (all : List SigBit × Building) → at < length selects → chosen_of width word parts (drop at selects) old ≡ all
    → PassesLimit (select_of word (take width parts) (get_or selects at d) old).1 → PassesLimit all.1
chosen_over width word parts selects at d old all h e over fits =
    let here = select_of word (take width parts) (get_or selects at d) old in
    over (chosen_limits width here.0 (drop width parts) (drop (at + 1) selects) here.1 (subst (λ z. IsInLimits z.1) (sym (chosen_step width word parts selects at d here.0 old here.1 h refl ∙ e)) fits))
