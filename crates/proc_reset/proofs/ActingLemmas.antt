-- The rules that act are two, or others.
use Rattle.std.proofs.Common.{◌≡◌, List, [], ◌∷◌, Bor, ◌⊎◌, inl, inr, sym, ap, subst}
use Rattle.rtl_ir.specs.declared.process.SyncRule.{SyncRule}
use Rattle.rtl_ir.specs.declared.module.Module.{Module}
use Rattle.rtl_ir.specs.declared.process.Process.{Process}
use Rattle.rtl_ir.specs.Types.{Ports}
use Rattle.net_model.specs.Proc.Reset.{reset_process}
use Rattle.process_trees.specs.Acting.{Acts}
use Rattle.process_trees.specs.declared.acting.Acting.{Acting}
use Rattle.process_trees.specs.declared.acting.Acting.TheVariants.{Idle, Single, Several}

-- where the rules that act are not two, a process stays
pub other_stays : (ports : Ports) (m : Module) (others : List Process) (p : Process) (acting : Acting) (rules : List SyncRule) → Acts acting rules
    → (acting ≡ Idle) ⊎ (((x : Bor SyncRule) × (acting ≡ Single x)) ⊎ (acting ≡ Several)) → p ≡ reset_process ports m others p rules
other_stays ports m others p acting rules a (inl e) =
    let none : rules ≡ [] = subst (λ k. Acts k rules) e a in
    ap (reset_process ports m others p) (sym none)
other_stays ports m others p acting rules a (inr (inl s)) =
    let one : rules ≡ s.0.now ∷ [] = subst (λ k. Acts k rules) s.1 a in
    ap (reset_process ports m others p) (sym one)
other_stays ports m others p acting rules a (inr (inr e)) =
    let more = subst (λ k. Acts k rules) e a in
    ap (reset_process ports m others p) (sym more.4)
