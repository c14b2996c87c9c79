-- Where a part of a net passes a limit, the whole net does.
use Rattle.std.proofs.Common.{◌≡◌, Bool, true, false, List, [], ◌∷◌, ◌++◌, refl, sym, ◌∙◌, ap, subst}
use Rattle.rtl_bits.specs.declared.bit.Bit.TheVariants.{S1}
use Rattle.rtl_ir.specs.Build.{Building}
use Rattle.rtl_sig.specs.declared.sig.SigBit.{SigBit}
use Rattle.rtl_sig.specs.declared.sig.SigBit.TheVariants.{Fixed}
use Rattle.net_index.specs.Builder.{IsInLimits, PassesLimit}
use Rattle.gate_nets.proofs.Added.{one_limits}
use Rattle.gate_nets.proofs.Limits.{each_limits, sum_limits}
use Rattle.gate_nets.specs.Gate.{after, gate_of}
use Rattle.gate_nets.specs.Words.{inverse_of}
use Rattle.gate_nets.specs.declared.gate.Gate.TheVariants.{Not}
use Rattle.map_add.specs.Order.{ranked_of, top_inverted}
use Rattle.map_add.specs.Sum.{difference_of}

pub top_limits : (bits : List SigBit) (b : Building) → IsInLimits (top_inverted bits b).1 → IsInLimits b
unfolding after
top_limits [] b h = h
top_limits (a ∷ []) b h = one_limits (Not a) b h
top_limits (a ∷ c ∷ bits) b h = top_limits (c ∷ bits) b h

pub ranked_limits : (signed : Bool) (bits : List SigBit) (b : Building) → IsInLimits (ranked_of signed bits b).1 → IsInLimits b
ranked_limits true bits b h = top_limits bits b h
ranked_limits false bits b h = h

pub difference_limits : (x y : List SigBit) (b : Building) → IsInLimits (difference_of x y b).1 → IsInLimits b
unfolding after
difference_limits x y b h = each_limits Not y b (sum_limits x (inverse_of y b).0 (Fixed S1) (inverse_of y b).1 h)

-- the top bit of a word, inverted
pub top_last : (below : List SigBit) (top : SigBit) (b : Building) → top_inverted (below ++ top ∷ []) b ≡ (below ++ (gate_of (Not top) b).0 ∷ [], (gate_of (Not top) b).1)
unfolding after
top_last [] top b = refl
top_last (x ∷ []) top b = refl
top_last (x ∷ y ∷ below) top b = ap (λ z. (x ∷ z.0, z.1)) (top_last (y ∷ below) top b)

pub top_exact : (bits below : List SigBit) (top y : SigBit) (old new : Building) → bits ≡ below ++ top ∷ [] → (y, new) ≡ gate_of (Not top) old → (below ++ y ∷ [], new) ≡ top_inverted bits old
top_exact bits below top y old new e f =
    ap (λ g. (below ++ g.0 ∷ [], g.1)) f ∙ sym (top_last below top old) ∙ ap (λ z. top_inverted z old) (sym e)

pub top_over : (bits below : List SigBit) (top : SigBit) (old : Building) → bits ≡ below ++ top ∷ [] → PassesLimit (gate_of (Not top) old).1 → PassesLimit (top_inverted bits old).1
top_over bits below top old e over fits =
    over (subst (λ z. IsInLimits z.1) (top_last below top old) (subst (λ z. IsInLimits (top_inverted z old).1) e fits))
