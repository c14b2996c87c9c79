-- One rule more that acts.
use Rattle.std.proofs.Common.{◌≡◌, List, [], ◌∷◌, ◌++◌, Bor, ◌⊎◌, inl, inr, ap, subst}
use Rattle.rtl_ir.specs.declared.process.SyncRule.{SyncRule}
use Rattle.process_trees.specs.declared.acting.Acting.{Acting}
use Rattle.process_trees.specs.declared.acting.Acting.TheVariants.{Pair, Several}
use Rattle.process_trees.specs.Acting.{Acts}

-- one rule more than two, or than more
pub many_act : (acting : Acting) (rules : List SyncRule) (r : SyncRule) → Acts acting rules
    → ((x : Bor SyncRule) × (y : Bor SyncRule) × (acting ≡ Pair x y)) ⊎ (acting ≡ Several) → Acts Several (rules ++ r ∷ [])
many_act acting rules r a (inl p) =
    let b = subst (λ k. Acts k rules) p.2 a in
    (p.0.now, p.1.now, r, [], ap (λ rs. rs ++ r ∷ []) b)
many_act acting rules r a (inr e) =
    let b = subst (λ k. Acts k rules) e a in
    (b.0, b.1, b.2, b.3 ++ r ∷ [], ap (λ rs. rs ++ r ∷ []) b.4)
