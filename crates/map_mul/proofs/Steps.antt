-- The loop of a product: with the rows that are left, what is made so far is the whole product.
use Rattle.std.proofs.Common.{◌≡◌, ℕ, suc, ◌+◌, ◌<◌, List, ◌∷◌, length, drop, get_or, refl, sym, ◌∙◌, ap, subst, arith, drop-cons}
use Rattle.rtl_ir.specs.Build.{Building}
use Rattle.rtl_sig.specs.declared.sig.SigBit.{SigBit}
use Rattle.net_index.specs.Builder.{IsInLimits, PassesLimit}
use Rattle.gate_nets.specs.Gate.{after}
use Rattle.map_mul.specs.Product.{added_row, product_from}
use Rattle.map_mul.proofs.Limits.{product_limits}

left_at : (bits : List SigBit) (at : ℕ) (d : SigBit) → at < length bits → drop at bits ≡ get_or bits at d ∷ drop (at + 1) bits
left_at bits at d h =
    let e : suc at ≡ at + 1 = omega arith in
    drop-cons bits at d h ∙ ap (λ n. get_or bits at d ∷ drop n bits) e

pub product_step :
    (so_far a bits more : List SigBit) (at : ℕ) (d : SigBit) (old new : Building) → at < length bits → (more, new) ≡ added_row so_far a at (get_or bits at d) old
    → product_from more a (at + 1) (drop (at + 1) bits) new ≡ product_from so_far a at (drop at bits) old
unfolding after
product_step so_far a bits more at d old new h e =
    ap (λ (g : List SigBit × Building). product_from g.0 a (at + 1) (drop (at + 1) bits) g.1) e ∙ ap (λ z. product_from so_far a at z old) (sym (left_at bits at d h))

pub product_over :
    (so_far a bits : List SigBit) (at : ℕ) (d : SigBit) (old : Building) (all : List SigBit × Building) → at < length bits
    → product_from so_far a at (drop at bits) old ≡ all → PassesLimit (added_row so_far a at (get_or bits at d) old).1 → PassesLimit all.1
product_over so_far a bits at d old all h e over fits =
    let here = added_row so_far a at (get_or bits at d) old in
    over (product_limits here.0 a (at + 1) (drop (at + 1) bits) here.1 (subst (λ (z : List SigBit × Building). IsInLimits z.1) (sym (product_step so_far a bits here.0 at d old here.1 h refl ∙ e)) fits))
