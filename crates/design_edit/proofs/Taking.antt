-- A module that is taken away.
use Rattle.std.proofs.Common.{◌≡◌, ℕ, zero, suc, ◌<◌, List, [], ◌∷◌, ◌++◌, Bool, true, false, not, cond, ◌||◌, length, get_or, take, drop, Some, None, refl, sym, ap, subst, ◌∙◌, arith, true≢false}
use Rattle.std.specs.Prelude.{map}
use Rattle.std.specs.List.{AllByRecursion, IsDistinct, insert, list_any, remove}
use Rattle.std.specs.Str.{bytes_eq}
use Rattle.std.proofs.lemmas.List.Quantifiers.{position-Some}
use Rattle.std.proofs.lemmas.Slice.Eq.{bytes_eq-Decides}
use Rattle.rtl_ir.specs.declared.module.Module.{Module}
use Rattle.rtl_ir.specs.Faults.Recursion.{place_named}
use Rattle.design_edit.specs.Modules.{without_module}
use Rattle.design_edit.proofs.Placing.{none_passes}

abbrev ids : List Module → List (List ℕ)
ids ms = map (λ (m : Module). m.id) ms

same_name : (a b : List ℕ) → bytes_eq a b ≡ true → a ≡ b
same_name a b e = (bytes_eq-Decides a b).0 e

-- a name that no module has
unnamed : (name : List ℕ) (ms : List Module) → list_any (λ (m : Module). bytes_eq m.id name) ms ≡ false → without_module ms name ≡ ms
unnamed name [] h = refl
unnamed name (m ∷ ms) h = by (bytes_eq m.id name) h (unnamed name ms)
  where
    by : (b : Bool) → (b || list_any (λ (n : Module). bytes_eq n.id name) ms) ≡ false → (list_any (λ (n : Module). bytes_eq n.id name) ms ≡ false → without_module ms name ≡ ms)
        → cond (not b) (m ∷ without_module ms name) (without_module ms name) ≡ m ∷ ms
    by true e rest = absurd (true≢false e)
    by false e rest = ap (λ (l : List Module). m ∷ l) (rest e)

differs : (a b : List ℕ) → bytes_eq a b ≡ false → bytes_eq b a ≡ false
differs a b e = by (bytes_eq b a) refl
  where
    by : (t : Bool) → bytes_eq b a ≡ t → bytes_eq b a ≡ false
    by true f = absurd (true≢false (sym ((bytes_eq-Decides a b).1 (sym (same_name b a f))) ∙ e))
    by false f = f

-- where all others have other names the name is none of theirs
others : (name : List ℕ) (ms : List Module) → AllByRecursion (λ (other : List ℕ). bytes_eq name other ≡ false) (ids ms) → list_any (λ (m : Module). bytes_eq m.id name) ms ≡ false
others name [] h = refl
others name (m ∷ ms) h = rw (differs name m.id h.0) (others name ms h.1)

taken_at : (name : List ℕ) (ms : List Module) (at : ℕ) (d : Module) → IsDistinct bytes_eq (ids ms) → at < length ms → bytes_eq (get_or ms at d).id name ≡ true → ((k : ℕ) → k < at → bytes_eq (get_or ms k d).id name ≡ false)
    → take at ms ++ drop (suc at) ms ≡ without_module ms name
unfolding IsDistinct
taken_at name [] at d distinct within here before = absurd (omega arith)
taken_at name (m ∷ ms) zero d distinct within here before =
    let free = others name ms (subst (λ (n : List ℕ). AllByRecursion (λ (other : List ℕ). bytes_eq n other ≡ false) (ids ms)) (same_name m.id name here) distinct.0) in
    sym (unnamed name ms free) ∙ ap (λ (b : Bool). cond (not b) (m ∷ without_module ms name) (without_module ms name)) (sym here)
taken_at name (m ∷ ms) (suc at) d distinct within here before =
    ap (λ (l : List Module). m ∷ l) (taken_at name ms at d distinct.1 (omega arith) here (λ k below. before (suc k) (omega (arith, below))))
    ∙ ap (λ (b : Bool). cond (not b) (m ∷ without_module ms name) (without_module ms name)) (sym (before zero (omega arith)))

-- without the module at the place of a name no module has it
pub taken_is : (ms : List Module) (name : List ℕ) (at : ℕ) (d : Module) → IsDistinct bytes_eq (ids ms) → place_named ms name ≡ Some at → remove ms at ≡ without_module ms name
taken_is ms name at d distinct e =
    let found = position-Some (λ (m : Module). bytes_eq m.id name) ms at d e in
    taken_at name ms at d distinct found.0 found.1 found.2

pub taken_none : (ms : List Module) (name : List ℕ) → place_named ms name ≡ None → ms ≡ without_module ms name
taken_none ms name e = sym (unnamed name ms (none_passes (λ (m : Module). bytes_eq m.id name) ms e))

-- put back at its place
pub back_again : (ms : List Module) (at : ℕ) (m : Module) → at < length ms → m ≡ get_or ms at m → insert (remove ms at) at m ≡ ms
back_again [] at m within is = absurd (omega arith)
back_again (n ∷ ms) zero m within is = ap (λ (l : Module). l ∷ ms) is
back_again (n ∷ ms) (suc at) m within is = ap (λ (l : List Module). n ∷ l) (back_again ms at m (omega arith) is)
