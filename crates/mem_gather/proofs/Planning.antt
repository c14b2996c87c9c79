-- The memory at a place has its plan.
use Rattle.std.proofs.Common.{◌≡◌, ℕ, zero, suc, ◌<◌, List, [], ◌∷◌, length, get_or, Some, slice_get, option_map, refl, sym, ◌∙◌, ap, arith}
use Rattle.rtl_ir.specs.declared.module.Module.{Module}
use Rattle.rtl_ir.specs.declared.plan.MemPlan.{MemPlan}
use Rattle.rtl_ir.specs.declared.store.Store.{Store}
use Rattle.net_model.specs.Mem.Gather.{gathered, plan_of}

got : {A : Type 0} (xs : List A) (i : ℕ) (d : A) → i < length xs → slice_get xs i ≡ Some (get_or xs i d)
got [] i d h = absurd (omega (arith, h))
got (x ∷ xs) zero d h = refl
got (x ∷ xs) (suc i) d h = got xs i d (omega (arith, h))

pub plan_got : (m : Module) (at : ℕ) (s : Store) (plan : MemPlan) → at < length m.memories → s ≡ get_or m.memories at s → plan ≡ gathered m at s → Some plan ≡ plan_of m at
plan_got m at s plan h is e =
    ap Some e ∙ sym (ap (option_map (gathered m at)) (got m.memories at s h ∙ ap Some (sym is)))
