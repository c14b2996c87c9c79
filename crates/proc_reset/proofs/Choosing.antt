-- What is answered on either side of a choice.
use Rattle.std.proofs.Common.{◌≡◌, Bool, true, false, cond, ◌&&◌, not, Result, IfOk, sym, ◌∙◌, ap, subst}
use Rattle.rtl_bits.specs.declared.memory.Memory.{Memory}

module _ {A : Type 0} (r : Result A Memory) (t : Bool) (x y : A) where
  pub first_chosen : t ≡ true → IfOk r (λ made. made ≡ x) → IfOk r (λ made. made ≡ cond t x y)
  first_chosen e h = subst (λ s. IfOk r (λ made. made ≡ cond s x y)) (sym e) h

  pub second_chosen : t ≡ false → IfOk r (λ made. made ≡ y) → IfOk r (λ made. made ≡ cond t x y)
  second_chosen e h = subst (λ s. IfOk r (λ made. made ≡ cond s x y)) (sym e) h

-- what is answered is the same
pub answer_is : {A : Type 0} (r : Result A Memory) (x y : A) → x ≡ y → IfOk r (λ made. made ≡ x) → IfOk r (λ made. made ≡ y)
answer_is r x y e h = subst (λ z. IfOk r (λ made. made ≡ z)) e h

-- one of two, and not
pub held_one : (held rest : Bool) → true ≡ held → false ≡ (not held && rest)
held_one held rest e = ap (λ t. not t && rest) e

pub held_none : (held rest free : Bool) → false ≡ held → free ≡ rest → free ≡ (not held && rest)
held_none held rest free e f = f ∙ ap (λ t. not t && rest) e
