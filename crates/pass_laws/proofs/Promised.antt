-- What a call answers has each property that the module of its definition has.
use Rattle.std.proofs.Common.{◌≡◌, Result, Ok, Err, sym, subst}
use Rattle.std.specs.Prelude.{IfOk, OnOk}
use Rattle.rtl_ir.specs.declared.module.Module.{Module}

module _ {E : Type 0} (r : Result Module E) (new : Module) (is : IfOk r (λ after. after ≡ new)) where
  -- .. where an answer comes under a condition alone, as within the limits
  pub answered_within : (L : Type 0) → OnOk r L → (P : Module → Type 0) → (L → P new) → IfOk r P
  answered_within L within P h = by r is within
    where
      by : (r : Result Module E) → IfOk r (λ after. after ≡ new) → OnOk r L → IfOk r P
      by (Ok after) e l = subst P (sym e) (h l)
      by (Err fault) e l = tt

  pub answered : (P : Module → Type 0) → P new → IfOk r P
  answered P h = by r is
    where
      by : (r : Result Module E) → IfOk r (λ after. after ≡ new) → IfOk r P
      by (Ok after) e = subst P (sym e) h
      by (Err fault) e = tt
