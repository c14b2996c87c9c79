-- Cells that are none of a memory, one after another.
use Rattle.std.proofs.Common.{◌≡◌, ℕ, zero, suc, Bool, false, true, cond, eqb, List, [], ◌∷◌, ◌++◌, drop, inl, inr, refl, sym, ◌∙◌, ap, subst, append_assoc, arith}
use Rattle.std.specs.Prelude.{◌-◌, ◌&&◌, filter, not}
use Rattle.rtl_ir.specs.WritePorts.{is_of_memory}
use Rattle.rtl_ir.specs.declared.cell.Cell.{Cell}
use Rattle.net_model.specs.Within.{Each}
use Rattle.net_model.proofs.MemoryCells.{IsPlain, stays}

module _ {A : Type 0} (p : A → Bool) (done : List A) (x : A) (rest all : List A) (before : done ++ filter p (x ∷ rest) ≡ all) where
  -- one more passes the test
  pub one_kept : (new : List A) → p x ≡ true → new ≡ done ++ x ∷ [] → new ++ filter p rest ≡ all
  one_kept new tells is =
      ap (λ ys. ys ++ filter p rest) is ∙ append_assoc done (x ∷ []) (filter p rest) ∙ ap (λ t. done ++ cond t (x ∷ filter p rest) (filter p rest)) (sym tells) ∙ before

  -- one more does not
  pub one_gone : p x ≡ false → done ++ filter p rest ≡ all
  one_gone tells = ap (λ t. done ++ cond t (x ∷ filter p rest) (filter p rest)) (sym tells) ∙ before

-- a cell after the first ones stays
pub kept_behind : (name : List ℕ) (left : ℕ) (c : Cell) (rest : List Cell) → Each IsPlain (drop left (c ∷ rest)) → left ≡ 0 → eqb left 0 ≡ stays name c
kept_behind name left c rest plain none =
    ap (λ n. eqb n 0) none ∙ ap (λ t. not (t && is_of_memory name c)) (sym (subst (λ n. Each IsPlain (drop n (c ∷ rest))) none plain c (inl refl)))

-- one of the first ones less
pub rest_plain : (left next : ℕ) (c : Cell) (rest : List Cell) → Each IsPlain (drop left (c ∷ rest)) → next ≡ left - 1 → Each IsPlain (drop next rest)
rest_plain zero next c rest plain is = let none : next ≡ 0 = omega (arith, is) in subst (λ n. Each IsPlain (drop n rest)) (sym none) (λ d i. plain d (inr i))
rest_plain (suc left) next c rest plain is = let one : next ≡ left = omega (arith, is) in subst (λ n. Each IsPlain (drop n rest)) (sym one) plain
