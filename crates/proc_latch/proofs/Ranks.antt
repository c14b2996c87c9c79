-- How far the way to a leaf may go on, where so many chains may be made one in another.
use Rattle.std.proofs.Common.{◌≡◌, ℕ, zero, suc, ◌+◌, ◌*◌, ◌<◌, ◌∙◌, ap, arith, refl}
use Rattle.rtl_ir.specs.Tree.{CaseView, switches_depth}

-- more than all that is done within one chain, for each chain
pub rank : CaseView → ℕ → ℕ
rank root zero = 0
rank root (suc n) = rank root n + (2 * switches_depth root.switches + 5)

one_rank : (root : CaseView) (m : ℕ) → rank root (suc m) ≡ rank root m + (2 * switches_depth root.switches + 5)
unfolding rank
one_rank root m = refl

-- a chain within a leaf goes less far
pub rank_falls : (root : CaseView) (n m : ℕ) → n ≡ suc m → rank root m + (2 * switches_depth root.switches + 4) < rank root n
rank_falls root n m e = let r : rank root n ≡ rank root m + (2 * switches_depth root.switches + 5) = ap (rank root) e ∙ one_rank root m in omega (arith, r)
